-- Code with its mask, and the walk from one mark to the next (JAM Gray Paper 0.7.0, appendix A.2).
use Rattle.std.specs.Prelude.{◌≡◌, ◌<◌, ℕ, zero, suc, ◌+◌, ◌*◌, ◌/◌, ◌%◌, List, [], ◌∷◌, Bool, ◌&&◌, ◌||◌, nat_lt, nat_le, nat_eq, if◌then◌else◌, length, slice_index}
use Rattle.std.specs.Int.{bit_at}

-- the bytes of a code, and its mask, which has a bit for each byte, set where an instruction starts
pub record Listing : Type 0 where
  pub bytes : List ℕ
  pub mask : List ℕ

-- the bit of a mask at a position, the lowest bit of a byte first
abbrev pub bit_of : List ℕ → ℕ → ℕ
bit_of mask at = bit_at (slice_index mask (at / 8)) (at % 8)

-- an instruction starts at the position
abbrev pub is_marked : Listing → ℕ → Bool
is_marked code at = nat_lt at (length code.bytes) && nat_eq (bit_of code.mask at) 1

-- the operands before the position end there: it is marked, or past the code
abbrev pub is_stop : Listing → ℕ → Bool
is_stop code at = nat_le (length code.bytes) at || nat_eq (bit_of code.mask at) 1

-- the n lowest bits of a number are set where operands end, from a position on
abbrev pub HasMarks : Listing → ℕ → ℕ → ℕ → Type 0
HasMarks code at marks n = (j : ℕ) → j < n → nat_eq (bit_at marks j) 1 ≡ is_stop code (at + j)

-- how many positions pass from the given one before the first that stops, at most n
unfoldable pub run_before : (ℕ → Bool) → ℕ → ℕ → ℕ
run_before stops at zero = 0
run_before stops at (suc n) = if stops at then 0 else 1 + run_before stops (at + 1) n

-- how many bytes of operands follow the opcode at a position, at most 24
abbrev pub skip : Listing → ℕ → ℕ
skip code at = run_before (is_stop code) (at + 1) 24

-- the number that bits spell, the lowest first
abbrev pub number_of_bits : List Bool → ℕ
number_of_bits [] = 0
number_of_bits (b ∷ bs) = (if b then 1 else 0) + 2 * number_of_bits bs

-- the mask of some marks: eight to a byte, the first in the lowest bit, and zero bits to the end of the last byte
unfoldable pub packed : List Bool → List ℕ
packed [] = []
packed (a ∷ b ∷ c ∷ d ∷ e ∷ f ∷ g ∷ h ∷ rest) = number_of_bits (a ∷ b ∷ c ∷ d ∷ e ∷ f ∷ g ∷ h ∷ []) ∷ packed rest
packed rest = number_of_bits rest ∷ []
