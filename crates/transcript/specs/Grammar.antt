-- Which files are lists of replies. A line is `r7=` and 1 to 16 hexadecimal digits, ` r8=` and 1 to 16, and then any number
-- of pieces ` ADDR:HEX`: 1 to 8 digits, and an even number of digits, at least 2, whose bytes end at 2^32 or before. Digits
-- are of either case.
use Rattle.std.specs.Prelude.{◌≡◌, ℕ, ◌+◌, ◌*◌, ◌^◌, List, [], ◌∷◌, length, ◌==◌, ◌&&◌, nat_lt, nat_le, if◌then◌else◌, take, drop, Option, Some, None, Result, Ok, Err, codes}
use Rattle.std.specs.Str.{bytes_eq}
use Rattle.std.specs.Option.{option_and_then}
use Rattle.std.specs.Result.{result_ok}
use Rattle.hex.specs.Hex.{decode_of, hex_digit_value}
use Rattle.transcript.specs.Hosts.{Reply}
use Rattle.transcript.specs.declared.reply_fault.ReplyFault.{ReplyFault}
use Rattle.transcript.specs.declared.reply_fault.ReplyFault.TheVariants.{BadLine, Memory}

-- parts with one byte more before the first of them
abbrev pub with_first : ℕ → List (List ℕ) → List (List ℕ)
with_first b [] = (b ∷ []) ∷ []
with_first b (part ∷ parts) = (b ∷ part) ∷ parts

-- the parts between separators: one more than there are separators
unfoldable pub parts_of : ℕ → List ℕ → List (List ℕ)
parts_of separator [] = [] ∷ []
parts_of separator (b ∷ bs) = if b == separator then [] ∷ parts_of separator bs else with_first b (parts_of separator bs)

-- parts without an empty last one
abbrev pub without_empty_last : List (List ℕ) → List (List ℕ)
without_empty_last [] = []
without_empty_last ([] ∷ []) = []
without_empty_last (part ∷ parts) = part ∷ without_empty_last parts

-- the lines, each of which ends with a line feed, which the last may lack
abbrev pub lines : List ℕ → List (List ℕ)
lines file = without_empty_last (parts_of 10 file)

-- the number that hexadecimal digits spell after a number
abbrev pub digit_after : (ℕ → Option ℕ) → ℕ → Option ℕ → Option ℕ
digit_after go n None = None
digit_after go n (Some digit) = go (16 * n + digit)

unfoldable pub digits_after : List ℕ → ℕ → Option ℕ
digits_after [] n = Some n
digits_after (b ∷ bs) n = digit_after (digits_after bs) n (hex_digit_value b)

-- the number of at least one digit and at most the given number of digits
abbrev pub hex_number : ℕ → List ℕ → Option ℕ
hex_number most digits = if nat_lt 0 (length digits) && nat_le (length digits) most then digits_after digits 0 else None

-- what follows a label
abbrev pub after : List ℕ → List ℕ → Option (List ℕ)
after label word = if bytes_eq (take (length label) word) label then Some (drop (length label) word) else None

-- the value of a register, with its label before it
abbrev pub value_of : List ℕ → List ℕ → Option ℕ
value_of label word = option_and_then (hex_number 16) (after label word)

-- bytes, at least one, that end at 2^32 or before
abbrev pub piece_in : Option ℕ → Option (List ℕ) → Option (ℕ × List ℕ)
piece_in None bytes = None
piece_in (Some at) None = None
piece_in (Some at) (Some bytes) = if nat_lt 0 (length bytes) && nat_le (at + length bytes) (2 ^ 32) then Some (at, bytes) else None

abbrev pub piece_by : List (List ℕ) → Option (ℕ × List ℕ)
piece_by (address ∷ digits ∷ []) = piece_in (hex_number 8 address) (result_ok (decode_of digits))
piece_by parts = None

-- a piece: an address and digits, with one colon between them
abbrev pub piece_of : List ℕ → Option (ℕ × List ℕ)
piece_of word = piece_by (parts_of 58 word)

abbrev pub one_more : Option (ℕ × List ℕ) → Option (List (ℕ × List ℕ)) → Option (List (ℕ × List ℕ))
one_more None rest = None
one_more (Some p) None = None
one_more (Some p) (Some ps) = Some (p ∷ ps)

-- the words after a space, with one space between each two; without that space there are none
abbrev pub words_of : Option (List ℕ) → List (List ℕ)
words_of None = []
words_of (Some bytes) = parts_of 32 bytes

-- the pieces of words; None where a word is no piece
abbrev pub pieces_of : List (List ℕ) → Option (List (ℕ × List ℕ))
pieces_of [] = Some []
pieces_of (word ∷ words) = one_more (piece_of word) (pieces_of words)

abbrev pub reply_in : Option ℕ → Option ℕ → Option (List (ℕ × List ℕ)) → Option Reply
reply_in (Some first) (Some second) (Some pieces) = Some (record { first = first; second = second; pieces = pieces })
reply_in first second pieces = None

abbrev pub reply_by : List (List ℕ) → Option Reply
reply_by (seven ∷ eight ∷ words) = reply_in (value_of (codes "r7=") seven) (value_of (codes "r8=") eight) (pieces_of words)
reply_by words = None

-- the reply of a line: words, with one space between each two
abbrev pub reply_of : List ℕ → Option Reply
reply_of line = reply_by (parts_of 32 line)

abbrev pub reply_more : Option Reply → ℕ → Result (List Reply) ℕ → Result (List Reply) ℕ
reply_more None number rest = Err number
reply_more (Some r) number (Ok rs) = Ok (r ∷ rs)
reply_more (Some r) number (Err bad) = Err bad

-- the replies of lines of which the first has this number, or the number of the first line that is no reply
abbrev pub replies_from : ℕ → List (List ℕ) → Result (List Reply) ℕ
replies_from number [] = Ok []
replies_from number (line ∷ rest) = reply_more (reply_of line) number (replies_from (number + 1) rest)

-- the replies of a file, or the number of its first line that is no reply, counted from 1; an empty file has no replies
abbrev pub replies_of : List ℕ → Result (List Reply) ℕ
replies_of file = replies_from 1 (lines file)

-- why a file is not read: its first bad line, or an allocation failed
abbrev pub FailsToRead : List ℕ → ReplyFault → Type 0
FailsToRead file (BadLine number) = replies_of file ≡ Err number
FailsToRead file Memory = Unit {0}
