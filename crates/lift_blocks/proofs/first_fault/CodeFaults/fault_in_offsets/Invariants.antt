use Rattle.std.proofs.Common.{◌≡◌, None}
use Rattle.faults.specs.First.{first_below}
use Rattle.relocs.specs.CodeFaults.{fault_at_offset}
use Rattle.lift_blocks.proofs.first_fault.CodeFaults.fault_in_offsets.Given as goal

abbrev pub ghost-fault_at : goal.ghost-fault_at
ghost-fault_at g a = g.given

abbrev pub invariant-loop-offset : goal.invariant-loop-offset
invariant-loop-offset g l = first_below l.offset (fault_at_offset g.given l.object l.section) ≡ None
