use Rattle.lift_blocks.proofs.first_fault.CodeFaults.fault_at_word.Given as goal

abbrev pub ghost-is_plain : goal.ghost-is_plain
ghost-is_plain g a = g.given

abbrev pub ghost-least_code : goal.ghost-least_code
ghost-least_code g a = g.given

abbrev pub ghost-is_direct : goal.ghost-is_direct
ghost-is_direct g a = g.given
