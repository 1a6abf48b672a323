-- The program of a generated object, before its instructions have positions.
use Rattle.std.specs.Prelude.{◌≡◌, ℕ, List, [], ◌∷◌, None, length}
use Rattle.runs.specs.Segments.{lowered}
use Rattle.pvm_ops.specs.declared.instr.Instr.{Instr}
use Rattle.pvm_ops.specs.BlockList.{BlockList}
use Rattle.lift_blocks.specs.Operations.{Operation}
use Rattle.lower.specs.Constants.{begins_run}
use Rattle.lower.specs.Lowering.{lower_op}
use Rattle.generated_runs.specs.Lifted.{lifted}

-- an operation is one instruction, and no constant that others could join
pub record IsOneInstruction (op : Operation ℕ) : Type 0 where
  pub no_run : begins_run op ≡ None
  pub one : (needed : List ℕ) → length (lower_op needed op) ≡ 1

-- the instructions of the operations, one after another
abbrev pub instructions : ℕ → ℕ → List Instr
instructions seed count = lowered (lower_op []) (lifted seed count).ops

-- one block with them, which the entry jumps to
abbrev pub program : ℕ → ℕ → BlockList
program seed count = record {
  blocks = record { instrs = instructions seed count; target = None } ∷ [];
  entries = 0 ∷ [];
  needed = [];
}
