use Rattle.polkatool_tests.proofs.phases.Phases.meaning.Given as goal

abbrev pub ghost-meaning : goal.ghost-meaning
ghost-meaning g a = g.given
