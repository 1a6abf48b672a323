use Rattle.polkatool_tests.proofs.layout_tests.sections_have_their_addresses.Given as goal

abbrev pub ghost-place : goal.ghost-place
ghost-place g a = a.wanted.now
