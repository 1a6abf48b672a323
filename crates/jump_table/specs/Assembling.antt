-- What `assemble` returns, and the steps by which it writes the code.
use Rattle.std.specs.Prelude.{◌≡◌, ℕ, ◌*◌, ◌/◌, ◌%◌, ◌^◌, ◌<◌, ◌≤◌, List, [], ◌∷◌, ◌++◌, length, map, Option, Some, None, slice_index, slice_set, bit_or}
use Rattle.pvm_ops.specs.declared.instr.Instr.{Instr}
use Rattle.pvm_ops.specs.Listing.{Listing}
use Rattle.pvm_ops.specs.Opcodes.{form_of}
use Rattle.pvm_ops.specs.Offsets.{with_offset}
use Rattle.pvm_ops.specs.Spelling.{spelling}
use Rattle.pvm_ops.specs.BlockList.{BlockList}
use Rattle.jump_table.specs.Assembly.{offset, start_of, code_of, table_of, width_of}
use Rattle.jump_table.specs.Lengths.{IsWide, AreLengths}
use Rattle.jump_table.specs.declared.fault.AssembleFault.{AssembleFault}
use Rattle.jump_table.specs.declared.fault.AssembleFault.TheVariants.{TooLarge, Memory}

-- the most bytes of code
abbrev pub most_bytes : ℕ
most_bytes = 2 ^ 25

-- a code with its jump table, the width of the table's elements, and the position of each block
pub record AssembledCode : Type 0 where
  pub code : Listing
  pub table : List ℕ
  pub width : ℕ
  pub starts : List ℕ

-- the position of each block, in order
pub record AreStarts (lengths : List ℕ) (list : BlockList) (starts : List ℕ) : Type 0 where
  pub count : length starts ≡ length list.blocks
  pub each : (block : ℕ) → block < length list.blocks → slice_index starts block ≡ start_of lengths list block

-- the code, the jump table and the positions are those of a list of blocks, and the code is not too large
pub record Assembles (list : BlockList) (assembled : AssembledCode) : Type 0 where
  pub lengths : List ℕ
  pub are_lengths : AreLengths list lengths
  pub code : assembled.code ≡ code_of lengths list
  pub table : assembled.table ≡ table_of lengths list
  pub width : assembled.width ≡ width_of (table_of lengths list)
  pub starts : AreStarts lengths list assembled.starts
  pub size : length assembled.code.bytes ≤ most_bytes

-- the code of a list has too many bytes, whatever wide enough lengths its offsets have
abbrev pub IsTooLarge : BlockList → Type 0
IsTooLarge list = (lengths : List ℕ) → IsWide list lengths → most_bytes < length (code_of lengths list).bytes

-- when a list has no code
abbrev pub Refuses : BlockList → AssembleFault → Type 0
Refuses list TooLarge = IsTooLarge list
Refuses list Memory = Unit {0}

-- the lengths of the offsets, the position of each block, and the number of bytes of the code
pub record ArePositions (list : BlockList) (lengths starts : List ℕ) (end : ℕ) : Type 0 where
  pub are_lengths : AreLengths list lengths
  pub are_starts : AreStarts lengths list starts
  pub is_end : end ≡ length (code_of lengths list).bytes
  pub small : end ≤ most_bytes

-- instructions as bytes, one word for each, with offsets of a length
abbrev pub spelled : ℕ → List Instr → List (List ℕ)
spelled len instrs = map (λ i. spelling i len) instrs

-- a mask with the mark of a position
abbrev pub with_mark : ℕ → List ℕ → List ℕ
with_mark at mask = slice_set mask (at / 8) (bit_or (slice_index mask (at / 8)) (2 ^ (at % 8)))

-- a word at the end of a code, with a mark at its first byte
abbrev pub with_word : Listing → List ℕ → Listing
with_word code word = record { bytes = code.bytes ++ word; mask = with_mark (length code.bytes) code.mask }

-- words at the end of a code, one after the other
abbrev pub with_words : Listing → List (List ℕ) → Listing
with_words code [] = code
with_words code (word ∷ words) = with_words (with_word code word) words

-- the mask has a mark for each byte of a list's code
abbrev pub HasRoom : List ℕ → BlockList → Listing → Type 0
HasRoom lengths list code = length (code_of lengths list).bytes ≤ 8 * length code.mask

-- an instruction at a position, whose offset, if it has one, leads to the start of a block
abbrev pub instr_at : ℕ → Instr → Option ℕ → List ℕ → Instr
instr_at at i None starts = i
instr_at at i (Some block) starts = with_offset (form_of i.op) (offset at (slice_index starts block)) i
