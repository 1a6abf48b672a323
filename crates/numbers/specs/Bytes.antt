-- Numbers as little-endian bytes, as ELF files, programs and containers keep them.
use Rattle.std.specs.Prelude.{ℕ, zero, suc, ◌+◌, ◌*◌, ◌/◌, ◌%◌, List, [], ◌∷◌}

-- the lowest n bytes of x, the lowest first
abbrev pub little : ℕ → ℕ → List ℕ
little zero x = []
little (suc n) x = x % 256 ∷ little n (x / 256)

-- the number that bytes spell, the lowest first
abbrev pub number_of : List ℕ → ℕ
number_of [] = 0
number_of (b ∷ bs) = b + 256 * number_of bs

-- fields of two, four and eight bytes: words that stay closed, since their bytes make long goals
unfoldable pub le_16 : ℕ → List ℕ
le_16 x = little 2 x

unfoldable pub le_32 : ℕ → List ℕ
le_32 x = little 4 x

unfoldable pub le_64 : ℕ → List ℕ
le_64 x = little 8 x
