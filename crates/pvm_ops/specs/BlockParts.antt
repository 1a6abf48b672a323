-- A list of blocks as it is kept: the instructions of all blocks in one list, and where those of each block end.
use Rattle.std.specs.Prelude.{ℕ, zero, suc, List, [], ◌∷◌, Bool, false, cond, nat_eq, nat_lt, slice_range}
use Rattle.pvm_ops.specs.declared.blocks.BasicBlock.{BasicBlock}
use Rattle.pvm_ops.specs.declared.instr.Instr.{Instr}
use Rattle.pvm_ops.specs.BlockList.{Block}

-- the blocks whose instructions begin at an index
abbrev pub blocks_from : ℕ → List Instr → List BasicBlock → List Block
blocks_from start instrs [] = []
blocks_from start instrs (b ∷ bs) = record { instrs = slice_range instrs start b.end; target = b.target } ∷ blocks_from b.end instrs bs

-- each block ends no earlier than it begins, where the one before ends, and the last one ends at this index
abbrev pub are_cut : ℕ → ℕ → List BasicBlock → Bool
are_cut start end [] = nat_eq start end
are_cut start end (b ∷ bs) = cond (nat_lt b.end start) false (are_cut b.end end bs)

-- where a block begins, by its number
abbrev pub start_of : ℕ → List BasicBlock → ℕ → ℕ
start_of start bs zero = start
start_of start [] (suc k) = start
start_of start (b ∷ bs) (suc k) = start_of b.end bs k
