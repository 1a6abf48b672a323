use Rattle.polkatool_tests.proofs.link_tests.operand_at.Given as goal

abbrev pub ghost-relocations : goal.ghost-relocations
ghost-relocations g a = g.given

abbrev pub ghost-refusal_code : goal.ghost-refusal_code
ghost-refusal_code g a = g.given

abbrev pub ghost-operand : goal.ghost-operand
ghost-operand g a = g.given
