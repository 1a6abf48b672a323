-- The operations in code order cut into blocks, each with its instructions: two machines that count through lists.
use Rattle.std.specs.Prelude.{ℕ, List, map, Option, Some, None}
use Rattle.runs.specs.Machine.{Outcome}
use Rattle.runs.specs.Blocks.{blocks, block_of}
use Rattle.runs.specs.Joined.{joined, position}
use Rattle.runs.specs.Segments.{Segment, instr_place}
use Rattle.runs.specs.Groups.{parts, segments_of}
use Rattle.machine_state.specs.State.{State}
use Rattle.machine_state.specs.Ends.{End}
use Rattle.lift_blocks.specs.Operations.{Operation}
use Rattle.lift_blocks.specs.Listed.{Lifted}
use Rattle.pvm_ops.specs.declared.instr.Instr.{Instr}
use Rattle.pvm_machine.specs.Effect.{effect}
use Rattle.lower.specs.Lowering.{lower_op, tail_of, offset_target, last_offset_target, is_call, part_instrs}

-- an instruction, and the number of the operation to which its offset leads, if it has one
pub record Targeted : Type 0 where
  pub instr : Instr
  pub target : Option ℕ

abbrev pub or_zero : Option ℕ → ℕ
or_zero None = 0
or_zero (Some target) = target

-- instructions with a target, which is that of their block
abbrev pub targeted : Option ℕ → List Instr → List Targeted
targeted target is = map (λ i. record { instr = i; target = target }) is

-- the instructions of an operation
abbrev pub targeted_op : List ℕ → Operation ℕ → List Targeted
targeted_op needed op = targeted (offset_target needed op) (lower_op needed op)

-- a block with its instructions: one segment, and one more after each call
abbrev pub block_segments : List ℕ → List (Operation ℕ) → List (Segment (Operation ℕ) Targeted)
block_segments needed ops = segments_of (λ part. targeted (last_offset_target needed ops) (part_instrs needed part)) (targeted (last_offset_target needed ops) (tail_of ops)) (parts is_call ops)

abbrev pub groups : Lifted → List (List (Segment (Operation ℕ) Targeted))
groups lifted = map (block_segments lifted.needed) (blocks lifted.begins lifted.ops)

abbrev pub segments : Lifted → List (Segment (Operation ℕ) Targeted)
segments lifted = joined (groups lifted)

-- the first piece of a block, by the block's number
abbrev pub first_segment : Lifted → ℕ → ℕ
first_segment lifted block = position (groups lifted) block

-- what an instruction does, where a number names an operation
abbrev pub instr_does : List ℕ → Targeted → State → Outcome ℕ State End
instr_does table i s = effect table (or_zero i.target) i.instr s

-- where the block of an operation begins among the instructions
abbrev pub instr_places : Lifted → ℕ → ℕ
instr_places lifted target = instr_place (segments lifted) (first_segment lifted (block_of lifted.begins target))
