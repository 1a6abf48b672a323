use Rattle.lift_blocks.proofs.first_fault.CodeFaults.refusal_code.Given as goal

abbrev pub ghost-is_bare : goal.ghost-is_bare
ghost-is_bare g a = g.given

abbrev pub ghost-refusal_code : goal.ghost-refusal_code
ghost-refusal_code g a = g.given
