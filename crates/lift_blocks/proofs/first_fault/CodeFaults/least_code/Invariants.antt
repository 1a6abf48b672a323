use Rattle.lift_blocks.proofs.first_fault.CodeFaults.least_code.Given as goal

abbrev pub ghost-refusal_code : goal.ghost-refusal_code
ghost-refusal_code g a = g.given

abbrev pub ghost-entry_fault : goal.ghost-entry_fault
ghost-entry_fault g a = g.given

abbrev pub ghost-word_fault : goal.ghost-word_fault
ghost-word_fault g a = g.given
