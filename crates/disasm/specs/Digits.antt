-- Numbers and bytes in lower-case hexadecimal digits.
use Rattle.std.specs.Prelude.{ℕ, zero, suc, ◌/◌, ◌%◌, List, [], ◌∷◌, ◌++◌}
use Rattle.std.specs.Char.{digit_char}
use Rattle.std.specs.List.{flat_map}

-- the two digits of a byte
abbrev pub byte_digits : ℕ → List ℕ
byte_digits byte = digit_char (byte / 16) ∷ digit_char (byte % 16) ∷ []

-- the digits of bytes
abbrev pub hex : List ℕ → List ℕ
hex bytes = flat_map byte_digits bytes

-- the lowest digits of a number, `count` of them, the highest first
abbrev pub hex_digits : ℕ → ℕ → List ℕ
hex_digits zero n = []
hex_digits (suc count) n = hex_digits count (n / 16) ++ digit_char (n % 16) ∷ []
