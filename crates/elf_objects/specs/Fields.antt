-- The numbers in a file, in little-endian order (gABI, "Data Encoding").
use Rattle.std.specs.Prelude.{ℕ, List, take, drop}
use Rattle.numbers.specs.Bytes.{number_of}

-- the number of two, four or eight bytes at an offset
unfoldable pub word_16 : List ℕ → ℕ → ℕ
word_16 b at = number_of (take 2 (drop at b))

unfoldable pub word_32 : List ℕ → ℕ → ℕ
word_32 b at = number_of (take 4 (drop at b))

unfoldable pub word_64 : List ℕ → ℕ → ℕ
word_64 b at = number_of (take 8 (drop at b))
