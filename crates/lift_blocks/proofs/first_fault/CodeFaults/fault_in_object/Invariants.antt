use Rattle.std.proofs.Common.{◌≡◌, None}
use Rattle.faults.specs.First.{first_below}
use Rattle.relocs.specs.Places.{code_at}
use Rattle.relocs.specs.CodeFaults.{fault_in_section}
use Rattle.lift_blocks.proofs.first_fault.CodeFaults.fault_in_object.Given as goal

abbrev pub ghost-fault_in_section : goal.ghost-fault_in_section
ghost-fault_in_section g a = g.given

abbrev pub invariant-loop-section : goal.invariant-loop-section
invariant-loop-section g l = first_below l.section (λ s. fault_in_section g.given l.object s (code_at g.given l.object s)) ≡ None
