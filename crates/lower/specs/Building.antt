-- A list of blocks as it is built, and the numbers of blocks that it is built with.
use Rattle.std.specs.Prelude.{◌≡◌, ℕ, ◌<◌, Bool, true, false, List, [], ◌∷◌, ◌++◌, Option, Some, None, length, slice_index}
use Rattle.runs.specs.Blocks.{block_of}
use Rattle.lift_blocks.specs.Listed.{Lifted}
use Rattle.pvm_ops.specs.declared.instr.Instr.{Instr}
use Rattle.pvm_ops.specs.BlockList.{Block, BlockList, change_last, with_target}

-- an element where a test holds
abbrev pub one_if : {A : Type 0} → Bool → A → List A
one_if true x = x ∷ []
one_if false x = []

-- the block with more instructions at its end
abbrev pub with_instrs : List Instr → Block → Block
with_instrs instrs block = record block { instrs = block.instrs ++ instrs }

-- the list with more instructions in its last block
abbrev pub extended : List Instr → BlockList → BlockList
extended instrs list = record list { blocks = change_last (with_instrs instrs) list.blocks }

-- the block with a target, if there is one
abbrev pub with_target_if : Option ℕ → Block → Block
with_target_if None block = block
with_target_if (Some target) block = with_target target block

-- the list with a target of its last block, if there is one
abbrev pub targeted_at : Option ℕ → BlockList → BlockList
targeted_at target list = record list { blocks = change_last (with_target_if target) list.blocks }

-- the list with one more block at its end
abbrev pub with_block : Block → BlockList → BlockList
with_block block list = record list { blocks = list.blocks ++ block ∷ [] }

-- the number of the block of each operation
pub record AreBlockNumbers (lifted : Lifted) (numbers : List ℕ) : Type 0 where
  pub count : length numbers ≡ length lifted.ops
  pub each : (t : ℕ) → t < length lifted.ops → slice_index numbers t ≡ block_of lifted.begins t
