-- The laws of numbers that contracts name.
use Rattle.std.specs.Prelude.{◌≡◌, ℕ, ◌*◌, ◌%◌, ◌^◌}
use Rattle.numbers.specs.Bytes.{little, number_of}
use Rattle.numbers.specs.Words.{sign_extend}

-- the low bytes of a number spell it, modulo their width
abbrev pub BytesComeBack : Type 0
BytesComeBack = (n x : ℕ) → number_of (little n x) ≡ x % 2 ^ (8 * n)

-- only the low bits count
abbrev pub SignIsKept : Type 0
SignIsKept = (bits x : ℕ) → sign_extend bits (x % 2 ^ bits) ≡ sign_extend bits x
