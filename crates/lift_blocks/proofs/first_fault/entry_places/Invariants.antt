use Rattle.lift_blocks.proofs.FirstFault.{EntriesBelow}
use Rattle.lift_blocks.proofs.first_fault.entry_places.Given as goal

abbrev pub invariant-loop-entry : goal.invariant-loop-entry
invariant-loop-entry g l = EntriesBelow g.given l.entry l.places
