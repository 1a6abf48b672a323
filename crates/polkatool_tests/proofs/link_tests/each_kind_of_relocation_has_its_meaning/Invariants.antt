use Rattle.polkatool_tests.proofs.link_tests.each_kind_of_relocation_has_its_meaning.Given as goal

abbrev pub ghost-see_meaning : goal.ghost-see_meaning
ghost-see_meaning g a = a.self.now
