-- A program before it has positions: blocks of instructions that name one another by number.
use Rattle.std.specs.Prelude.{ℕ, List, [], ◌∷◌, ◌++◌, Option, Some, None}
use Rattle.std.specs.List.{slice_index_or}
use Rattle.pvm_ops.specs.declared.instr.Instr.{Instr}

-- the instructions of a block; the target is the block to which the offset of its last instruction leads
pub record Block : Type 0 where
  pub instrs : List Instr
  pub target : Option ℕ

-- blocks in the order of the code, the block of each entry, and the block of each place of the address map
pub record BlockList : Type 0 where
  pub blocks : List Block
  pub entries : List ℕ
  pub needed : List ℕ

-- the block without instructions and without a target
abbrev pub empty_block : Block
empty_block = record { instrs = []; target = None }

-- the block of a number
abbrev pub block_at : BlockList → ℕ → Block
block_at list at = slice_index_or list.blocks at empty_block

-- the block with one instruction more at its end
abbrev pub with_instr : Instr → Block → Block
with_instr instr block = record block { instrs = block.instrs ++ instr ∷ [] }

-- the block with a target
abbrev pub with_target : ℕ → Block → Block
with_target target block = record block { target = Some target }

-- the list with its last block changed
abbrev pub change_last : (Block → Block) → List Block → List Block
change_last change [] = []
change_last change (b ∷ []) = change b ∷ []
change_last change (b ∷ c ∷ rest) = b ∷ change_last change (c ∷ rest)
