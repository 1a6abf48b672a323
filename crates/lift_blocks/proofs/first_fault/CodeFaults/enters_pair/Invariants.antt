use Rattle.lift_blocks.proofs.first_fault.CodeFaults.enters_pair.Given as goal

abbrev pub ghost-is_second : goal.ghost-is_second
ghost-is_second g a = g.given
