use Rattle.lift_blocks.proofs.first_fault.CodeFaults.fault_in_section.Given as goal

abbrev pub ghost-fault_in_code : goal.ghost-fault_in_code
ghost-fault_in_code g a = g.given
