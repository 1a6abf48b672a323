-- The laws of placing that the link rests on: each instruction of a list of blocks is at its position in the code,
-- with the offset that leads to the start of its target.
use Rattle.std.specs.Prelude.{◌≡◌, ℕ, ◌+◌, ◌*◌, ◌<◌, ◌^◌, List, ◌++◌, [], ◌∷◌, length, Bool, true, false, IsTrue, Option, Some, None, slice_get, slice_index}
use Rattle.std.specs.List.{AllByRecursion}
use Rattle.numbers.specs.Words.{sum_64}
use Rattle.pvm_ops.specs.declared.instr.Instr.{Instr}
use Rattle.pvm_ops.specs.Listing.{Listing, is_marked}
use Rattle.pvm_ops.specs.Opcodes.{is_known, form_of}
use Rattle.pvm_ops.specs.Fetch.{fetch_of}
use Rattle.pvm_ops.specs.Spelling.{IsEncodable}
use Rattle.pvm_ops.specs.Offsets.{offset_of, has_offset}
use Rattle.pvm_ops.specs.BlockList.{Block, BlockList}
use Rattle.blob_check.specs.Starts.{is_terminator, is_start}
use Rattle.jump_table.specs.Assembly.{Member, offset_len, entry_len, jump, members_of, instrs_of, instr_position, start_of, offset, placed_instr, code_of}
use Rattle.jump_table.specs.Lengths.{IsWide, AreLengths}

-- an instruction that can be placed, with whatever offset
pub record IsPlaceable (i : Instr) : Type 0 where
  pub known : IsTrue (is_known i.op)
  pub encodable : IsEncodable i offset_len

-- and one that has no offset
pub record IsPlainInstr (i : Instr) : Type 0 where
  pub known : IsTrue (is_known i.op)
  pub encodable : IsEncodable i offset_len
  pub no_offset : has_offset (form_of i.op) ≡ false

abbrev pub HasNoOffset : Instr → Type 0
HasNoOffset i = has_offset (form_of i.op) ≡ false

abbrev pub is_some : Option ℕ → Bool
is_some None = false
is_some (Some target) = true

-- A block has a last instruction. None but that has an offset, and it has one exactly where the block has a target.
pub record IsBlock (b : Block) : Type 0 where
  pub front : List Instr
  pub last : Instr
  pub is : b.instrs ≡ front ++ last ∷ []
  pub plain : AllByRecursion HasNoOffset front
  pub targeted : has_offset (form_of last.op) ≡ is_some b.target

-- what a list must be to be placed
pub record IsAssemblable (list : BlockList) : Type 0 where
  pub instrs : (number : ℕ) (i : Instr) → slice_get (instrs_of list) number ≡ Some i → IsPlaceable i
  pub blocks : (block : ℕ) (b : Block) → slice_get list.blocks block ≡ Some b → IsBlock b
  pub targets : (block target : ℕ) (b : Block) → slice_get list.blocks block ≡ Some b → b.target ≡ Some target → target < length list.blocks
  pub entries : (entry block : ℕ) → slice_get list.entries entry ≡ Some block → block < length list.blocks
  pub needed : (place block : ℕ) → slice_get list.needed place ≡ Some block → block < length list.blocks

-- each block's last instruction ends it
abbrev pub AreEnded : BlockList → Type 0
AreEnded list = (block : ℕ) (b : Block) (front : List Instr) (last : Instr) → slice_get list.blocks block ≡ Some b → b.instrs ≡ front ++ last ∷ [] → is_terminator last.op ≡ true

-- the instruction is at a position of the code, and the next one at another position
pub record Fetches (code : Listing) (at : ℕ) (i : Instr) (next : ℕ) : Type 0 where
  pub marked : is_marked code at ≡ true
  pub known : IsTrue (is_known (slice_index code.bytes at))
  pub fetched : fetch_of code at ≡ record { instr = i; next = next }

-- What is where in the code of a list: the jump of each entry; each instruction, with its offset, which leads to the
-- start of its target; nothing after the last; and a block starts where each block of the list does, so at each target.
pub record IsPlaced (lengths : List ℕ) (list : BlockList) (code : Listing) : Type 0 where
  pub entries : (entry block : ℕ) → slice_get list.entries entry ≡ Some block → Fetches code (entry_len * entry) (jump (offset (entry_len * entry) (start_of lengths list block))) (entry_len * (entry + 1))
  pub instrs : (number : ℕ) (m : Member) → slice_get (members_of lengths list) number ≡ Some m → Fetches code (instr_position lengths list number) (placed_instr lengths list number m.target m.instr) (instr_position lengths list (number + 1))
  pub leads : (number target : ℕ) (m : Member) → m.target ≡ Some target → has_offset (form_of m.instr.op) ≡ true
      → sum_64 (instr_position lengths list number) (offset_of (form_of m.instr.op) (placed_instr lengths list number m.target m.instr)) ≡ start_of lengths list target
  pub past : (number : ℕ) → slice_get (members_of lengths list) number ≡ None → is_marked code (instr_position lengths list number) ≡ false
  pub starts : AreEnded list → (block : ℕ) → block < length list.blocks → is_start code (start_of lengths list block) ≡ true
  pub lands : AreEnded list → (number target : ℕ) (m : Member) → slice_get (members_of lengths list) number ≡ Some m → m.target ≡ Some target → is_start code (start_of lengths list target) ≡ true

-- the code of a list that can be placed has its instructions at their positions
abbrev pub CodeIsPlaced : Type 0
CodeIsPlaced = (lengths : List ℕ) (list : BlockList) → IsAssemblable list → IsWide list lengths → length (code_of lengths list).bytes < 2 ^ 31 → IsPlaced lengths list (code_of lengths list)

-- a list has at most one assignment of the shortest lengths
abbrev pub LengthsAreOne : Type 0
LengthsAreOne = (list : BlockList) (lengths others : List ℕ) → AreLengths list lengths → AreLengths list others → lengths ≡ others

-- the last instruction of a block with a target is at the block's end and leads to the start of its target
pub record LeadsTo (lengths : List ℕ) (list : BlockList) (code : Listing) (block target : ℕ) : Type 0 where
  pub at : ℕ
  pub last : Instr
  pub fetched : Fetches code at last (start_of lengths list (block + 1))
  pub has : has_offset (form_of last.op) ≡ true
  pub leads : sum_64 at (offset_of (form_of last.op) last) ≡ start_of lengths list target
  pub starts : AreEnded list → is_start code (start_of lengths list target) ≡ true

abbrev pub TargetsAreLed : Type 0
TargetsAreLed =
    (lengths : List ℕ) (list : BlockList) (code : Listing) → IsAssemblable list → IsPlaced lengths list code
    → (block target : ℕ) (b : Block) → slice_get list.blocks block ≡ Some b → b.target ≡ Some target → LeadsTo lengths list code block target
