-- The instructions after those of a block's last operation.
use Rattle.std.proofs.Common.{Bool, true, false, List, [], ◌∷◌, ℕ}
use Rattle.lift_blocks.specs.Operations.{Operation}
use Rattle.pvm_ops.specs.declared.instr.Instr.{Instr}
use Rattle.lower.specs.Instructions.{fallthrough}
use Rattle.lift_blocks.specs.Listed.{ends_block}
use Rattle.lower.specs.Lowering.{tail_if, tail_of}

-- a block's tail is none or a fallthrough
pub tail_has : (P : List Instr → Type 0) → P [] → P (fallthrough ∷ []) → (ops : List (Operation ℕ)) → P (tail_of ops)
tail_has P none one [] = one
tail_has P none one (op ∷ []) = by_end (ends_block op)
  where
    by_end : (b : Bool) → P (tail_if b)
    by_end true = none
    by_end false = one
tail_has P none one (op ∷ next ∷ ops) = tail_has P none one (next ∷ ops)
