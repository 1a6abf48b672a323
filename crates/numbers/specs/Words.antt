-- Words of 64 bits as numbers below 2^64, a signed number being kept in two's complement, and the fields of words.
use Rattle.std.specs.Prelude.{ℕ, ◌+◌, ◌-◌, ◌*◌, ◌/◌, ◌%◌, ◌^◌, ℤ, pos, negsuc, nat_lt, if◌then◌else◌}
use Rattle.std.specs.Int.{w64, cast_unsigned}

-- `count` bits of a word, from the bit `low` on
abbrev pub field : ℕ → ℕ → ℕ → ℕ
field low count word = word / 2 ^ low % 2 ^ count

-- the signed number that `count` bits spell, as an immediate of a RISC-V word
abbrev pub signed_of : ℕ → ℕ → ℤ
signed_of count bits = if nat_lt (2 * bits) (2 ^ count) then pos bits else negsuc (2 ^ count - 1 - bits)

-- a signed number in 64 bits
abbrev pub word_of : ℤ → ℕ
word_of x = cast_unsigned w64 x

-- the low bits of a word, extended by their sign to 64 bits
abbrev pub sign_extend : ℕ → ℕ → ℕ
sign_extend bits x = if nat_lt (x % 2 ^ bits) (2 ^ (bits - 1)) then x % 2 ^ bits else x % 2 ^ bits + (2 ^ 64 - 2 ^ bits)

-- a sum of 64 bits
abbrev pub sum_64 : ℕ → ℕ → ℕ
sum_64 x y = (x + y) % 2 ^ 64
