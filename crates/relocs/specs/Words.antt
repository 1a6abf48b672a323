-- The word at an offset of code.
use Rattle.std.specs.Prelude.{ℕ, ◌+◌, ◌%◌, List, take, drop, length, Bool, false, Option, Some, None, Result, Ok, Err, ◌&&◌, nat_eq, nat_le, if◌then◌else◌}
use Rattle.numbers.specs.Bytes.{number_of}
use Rattle.rv_decode.specs.declared.ops.RvOp.{RvOp}
use Rattle.rv_decode.specs.declared.ops.RvOp.TheVariants.{Trap}
use Rattle.rv_decode.specs.declared.ops.WordFault.{WordFault}
use Rattle.rv_decode.specs.declared.ops.WordFault.TheVariants.{BadWord}
use Rattle.rv_decode.specs.Operations.{operation}
use Rattle.symbols.specs.Wanted.{Given}
use Rattle.relocs.specs.Places.{CodePlace, Code, Stub, Nowhere, code_at}

-- the four bytes at an offset, as a number
abbrev pub word_at : List ℕ → ℕ → ℕ
word_at bytes offset = number_of (take 4 (drop offset bytes))

-- the word at an offset of a section: a trap at its end, and else the four bytes from there, which are no word where fewer are
-- left
unfoldable pub word_or_trap : List ℕ → ℕ → Result RvOp WordFault
word_or_trap bytes offset =
    if nat_eq offset (length bytes) then Ok Trap
    else (if nat_le (offset + 4) (length bytes) then operation (word_at bytes offset)
    else Err BadWord)

-- an offset that can be a place
abbrev pub is_code_offset : ℕ → ℕ → Bool
is_code_offset size offset = nat_eq (offset % 4) 0 && nat_le offset size

abbrev pub is_offset_in : Option (List ℕ) → ℕ → Bool
is_offset_in None offset = false
is_offset_in (Some bytes) offset = is_code_offset (length bytes) offset

abbrev pub word_in : Option (List ℕ) → ℕ → Option (Result RvOp WordFault)
word_in None offset = None
word_in (Some bytes) offset = if is_code_offset (length bytes) offset then Some (word_or_trap bytes offset) else None

-- the word at an offset of a section, before relocation: an operation or a faulty word, where the offset can be a place
abbrev pub word_of_place : Given → CodePlace → Option (Result RvOp WordFault)
word_of_place given (Code o s offset) = word_in (code_at given o s) offset
word_of_place given (Stub n at) = None
word_of_place given Nowhere = None

-- the operation, or nothing where the word is faulty
abbrev pub decoded : Option (Result RvOp WordFault) → Option RvOp
decoded None = None
decoded (Some (Ok op)) = Some op
decoded (Some (Err fault)) = None

abbrev pub raw_at : Given → CodePlace → Option RvOp
raw_at given p = decoded (word_of_place given p)
