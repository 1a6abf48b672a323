-- The value of an argument: a file name, a number, or bytes.
use Rattle.std.specs.Prelude.{◌≡◌, ℕ, ◌+◌, ◌-◌, ◌*◌, List, [], ◌∷◌, Bool, false, ◌&&◌, not, ◌==◌, nat_lt, if◌then◌else◌, Option, Some, None}
use Rattle.std.specs.Option.{unwrap_or}
use Rattle.std.specs.Result.{result_ok}
use Rattle.std.specs.Char.{is_ascii_digit}
use Rattle.std.specs.Str.{is_utf8}
use Rattle.hex.specs.Hex.{decode_of}

-- a word that names a file: it is not empty, and UTF-8
abbrev pub is_name : List ℕ → Bool
is_name [] = false
is_name (b ∷ bs) = is_utf8 (b ∷ bs)

-- a word that begins with '-', as options do
abbrev pub begins_with_dash : List ℕ → Bool
begins_with_dash [] = false
begins_with_dash (b ∷ bs) = b == 45

-- a word that names a file, and is no option
abbrev pub is_file : List ℕ → Bool
is_file word = is_name word && not (begins_with_dash word)

-- the number spelled by the digits of a number and these bytes after them, if all are digits
unfoldable pub digits_after : ℕ → List ℕ → Option ℕ
digits_after n [] = Some n
digits_after n (b ∷ bs) = if is_ascii_digit b then digits_after (10 * n + (b - 48)) bs else None

-- a number below a bound
abbrev pub below : ℕ → Option ℕ → Option ℕ
below bound None = None
below bound (Some n) = if nat_lt n bound then Some n else None

-- The number below a bound that a word spells: decimal digits without a leading zero, but for 0 itself.
abbrev pub number_below : ℕ → List ℕ → Option ℕ
number_below bound [] = None
number_below bound (b ∷ []) = below bound (digits_after 0 (b ∷ []))
number_below bound (b ∷ c ∷ bs) = if b == 48 then None else below bound (digits_after 0 (b ∷ c ∷ bs))

-- the name of a file that a word is
abbrev pub file_of : List ℕ → Option (List ℕ)
file_of word = if is_file word then Some word else None

-- the name of a file that the value of an option is, which may begin with '-'
abbrev pub file_value_of : List ℕ → Option (List ℕ)
file_value_of word = if is_name word then Some word else None

-- The bytes that a word spells, two hexadecimal digits of either case for each. None where it has another byte, or an odd
-- number of them.
abbrev pub argument_of : List ℕ → Option (List ℕ)
argument_of word = result_ok (decode_of word)

-- the bytes that a word spells, where it spells some
abbrev pub spelled_bytes : List ℕ → List ℕ
spelled_bytes word = unwrap_or (argument_of word) []

-- a word that spells some
abbrev pub IsSpelled : List ℕ → Type 0
IsSpelled word = argument_of word ≡ Some (spelled_bytes word)
