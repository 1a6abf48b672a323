-- The code of a list of blocks: first a jump for each entry, then the blocks, one after another. The number of bytes of
-- each offset is in a list beside the blocks, a length for each: only a block's last instruction has an offset.
use Rattle.std.specs.Prelude.{ℕ, ◌+◌, ◌-◌, ◌*◌, ◌%◌, ◌^◌, List, [], ◌∷◌, ◌++◌, length, map, nat_lt, if◌then◌else◌, Bool, Option, Some, None}
use Rattle.std.specs.List.{list_all}
use Rattle.runs.specs.Joined.{joined, position}
use Rattle.runs.specs.Marks.{marks}
use Rattle.pvm_ops.specs.declared.instr.Instr.{Instr}
use Rattle.pvm_ops.specs.Listing.{Listing, packed}
use Rattle.pvm_ops.specs.Opcodes.{form_of}
use Rattle.pvm_ops.specs.Spelling.{spelling}
use Rattle.pvm_ops.specs.Offsets.{with_offset}
use Rattle.pvm_ops.specs.BlockList.{Block, BlockList}

-- how many bytes the offset of an entry's jump takes
abbrev pub offset_len : ℕ
offset_len = 4

-- how many bytes an entry's jump takes
abbrev pub entry_len : ℕ
entry_len = 5

-- the jump of an entry (opcode 40)
abbrev pub jump : ℕ → Instr
jump offset = record { op = 40; a = 0; b = 0; d = 0; x = offset; y = 0 }

-- An instruction of a block, with how many bytes its offset takes, and the block to which that leads. Both are those of
-- its block, of which only the last instruction has an offset.
pub record Member : Type 0 where
  pub instr : Instr
  pub len : ℕ
  pub target : Option ℕ

-- the instructions of a block
abbrev pub members : ℕ → Block → List Member
members len b = map (λ i. record { instr = i; len = len; target = b.target }) b.instrs

-- those of each block, with the lengths in the order of the blocks
abbrev pub groups : List ℕ → List Block → List (List Member)
groups lengths [] = []
groups [] (b ∷ bs) = members 0 b ∷ groups [] bs
groups (len ∷ lengths) (b ∷ bs) = members len b ∷ groups lengths bs

-- those of all blocks
abbrev pub members_of : List ℕ → BlockList → List Member
members_of lengths list = joined (groups lengths list.blocks)

-- the instructions of all blocks, in order
abbrev pub instrs_of : BlockList → List Instr
instrs_of list = joined (map (λ b. b.instrs) list.blocks)

-- the number among them of a block's first
abbrev pub first_of : BlockList → ℕ → ℕ
first_of list block = position (map (λ b. b.instrs) list.blocks) block

-- instructions as bytes, one word for each
abbrev pub words : List Member → List (List ℕ)
words ms = map (λ m. spelling m.instr m.len) ms

-- The position of the instruction with a number, and of a block. An instruction has the same length whatever its
-- offset is, so that positions come before offsets.
abbrev pub instr_position : List ℕ → BlockList → ℕ → ℕ
instr_position lengths list number = entry_len * length list.entries + position (words (members_of lengths list)) number

abbrev pub start_of : List ℕ → BlockList → ℕ → ℕ
start_of lengths list block = instr_position lengths list (first_of list block)

-- the offset that leads from a position to another, modulo 2^64
abbrev pub offset : ℕ → ℕ → ℕ
offset from to = (to + (2 ^ 64 - from)) % 2 ^ 64

-- the entries' jumps, from a position on
abbrev pub entry_jumps : List ℕ → BlockList → ℕ → List ℕ → List Member
entry_jumps lengths list at [] = []
entry_jumps lengths list at (block ∷ blocks) = record { instr = jump (offset at (start_of lengths list block)); len = offset_len; target = Some block } ∷ entry_jumps lengths list (at + entry_len) blocks

-- the instruction with a number, where its offset, if it has one, leads to the start of a block
abbrev pub placed_instr : List ℕ → BlockList → ℕ → Option ℕ → Instr → Instr
placed_instr lengths list number None i = i
placed_instr lengths list number (Some target) i = with_offset (form_of i.op) (offset (instr_position lengths list number) (start_of lengths list target)) i

-- instructions with their offsets, from the one with a number on
abbrev pub placed : List ℕ → BlockList → ℕ → List Member → List Member
placed lengths list number [] = []
placed lengths list number (m ∷ ms) = record { instr = placed_instr lengths list number m.target m.instr; len = m.len; target = m.target } ∷ placed lengths list (number + 1) ms

-- all instructions of the code, with their offsets
abbrev pub code_members : List ℕ → BlockList → List Member
code_members lengths list = entry_jumps lengths list 0 list.entries ++ placed lengths list 0 (members_of lengths list)

-- the code: the instructions as bytes, where the first byte of each is marked
unfoldable pub code_of : List ℕ → BlockList → Listing
code_of lengths list = record { bytes = joined (words (code_members lengths list)); mask = packed (joined (map marks (words (code_members lengths list)))) }

-- the jump table: the positions of the needed places in the order of their numbers
abbrev pub table_of : List ℕ → BlockList → List ℕ
table_of lengths list = map (start_of lengths list) list.needed

abbrev pub all_below : ℕ → List ℕ → Bool
all_below bound table = list_all (λ at. nat_lt at bound) table

-- the least of 1 to 4 bytes that hold each position
abbrev pub width_of : List ℕ → ℕ
width_of table =
    if all_below (2 ^ 8) table then 1
    else (if all_below (2 ^ 16) table then 2
    else (if all_below (2 ^ 24) table then 3
    else 4))
