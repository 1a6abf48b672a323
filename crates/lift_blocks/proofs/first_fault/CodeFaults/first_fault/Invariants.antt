use Rattle.std.proofs.Common.{◌≡◌, None}
use Rattle.faults.specs.First.{first_below}
use Rattle.relocs.specs.CodeFaults.{fault_in_object}
use Rattle.lift_blocks.proofs.first_fault.CodeFaults.first_fault.Given as goal

abbrev pub ghost-fault_in_object : goal.ghost-fault_in_object
ghost-fault_in_object g a = g.given

abbrev pub invariant-loop-object : goal.invariant-loop-object
invariant-loop-object g l = first_below l.object (fault_in_object g.given) ≡ None
