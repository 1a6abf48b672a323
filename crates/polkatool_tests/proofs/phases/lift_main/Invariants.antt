use Rattle.polkatool_tests.proofs.phases.lift_main.Given as goal

abbrev pub ghost-place : goal.ghost-place
ghost-place g a = a.wanted.now
