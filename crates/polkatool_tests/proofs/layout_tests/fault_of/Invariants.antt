use Rattle.polkatool_tests.proofs.layout_tests.fault_of.Given as goal

abbrev pub ghost-place : goal.ghost-place
ghost-place g a = a.wanted.now
