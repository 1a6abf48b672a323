use Rattle.lift_blocks.proofs.first_fault.first_code_fault.Given as goal

abbrev pub ghost-entry_places : goal.ghost-entry_places
ghost-entry_places g a = g.given

abbrev pub ghost-first_fault : goal.ghost-first_fault
ghost-first_fault g a = g.given
