use Rattle.polkatool_tests.proofs.phases.Phases.images.Given as goal

abbrev pub ghost-images : goal.ghost-images
ghost-images g a = g.given
