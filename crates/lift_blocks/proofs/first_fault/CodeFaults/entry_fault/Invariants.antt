use Rattle.lift_blocks.proofs.first_fault.CodeFaults.entry_fault.Given as goal

abbrev pub ghost-enters_pair : goal.ghost-enters_pair
ghost-enters_pair g a = g.given
