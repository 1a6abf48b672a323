use Rattle.polkatool_tests.proofs.phases.Phases.operand.Given as goal

abbrev pub ghost-new : goal.ghost-new
ghost-new g a = g.given

abbrev pub ghost-operand_at : goal.ghost-operand_at
ghost-operand_at g a = g.given
