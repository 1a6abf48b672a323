use Rattle.lift_blocks.proofs.first_fault.CodeFaults.fault_at.Given as goal

abbrev pub ghost-fault_at_word : goal.ghost-fault_at_word
ghost-fault_at_word g a = g.given
