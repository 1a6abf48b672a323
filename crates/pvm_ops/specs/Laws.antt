-- The laws of code and spellings that contracts name.
use Rattle.std.specs.Prelude.{◌≡◌, ℕ, ◌+◌, ◌/◌, ◌%◌, ◌^◌, List, Bool, false, ◌||◌, IsTrue, nat_le, length, slice_index}
use Rattle.std.specs.List.{slice_index_or}
use Rattle.pvm_ops.specs.Listing.{Listing, is_marked, is_stop, packed}
use Rattle.pvm_ops.specs.Opcodes.{is_known}
use Rattle.pvm_ops.specs.Fetch.{fetch_of}
use Rattle.pvm_ops.specs.Spelling.{spelling, IsEncodable, IsAloneAt}
use Rattle.pvm_ops.specs.declared.instr.Instr.{Instr}

-- an instruction that stands alone is fetched as it was spelled
abbrev pub ReadsBack : Type 0
ReadsBack =
    (code : Listing) (i : Instr) (at offset_len : ℕ) → IsTrue (is_known i.op) → IsEncodable i offset_len → IsAloneAt code i at offset_len →
    fetch_of code at ≡ record { instr = i; next = at + length (spelling i offset_len) }

-- a packed mask marks the positions of its marks
abbrev pub MarksComeBack : Type 0
MarksComeBack =
    (bytes : List ℕ) (marks : List Bool) → length marks ≡ length bytes → (at : ℕ) →
    is_marked (record { bytes = bytes; mask = packed marks }) at ≡ slice_index_or marks at false

-- operands end at the marks of a packed mask and past the code
abbrev pub StopsComeBack : Type 0
StopsComeBack =
    (bytes : List ℕ) (marks : List Bool) → length marks ≡ length bytes → (at : ℕ) →
    is_stop (record { bytes = bytes; mask = packed marks }) at ≡ (nat_le (length bytes) at || slice_index_or marks at false)

-- a mask has a byte for every eight marks, and one for those that are left
abbrev pub MaskLength : Type 0
MaskLength = (marks : List Bool) → length (packed marks) ≡ (length marks + 7) / 8

-- the bits of a mask past its marks are zero
abbrev pub MaskIsPadded : Type 0
MaskIsPadded = (marks : List Bool) → slice_index (packed marks) (length marks / 8) / 2 ^ (length marks % 8) ≡ 0
