use Rattle.polkatool_tests.proofs.link_tests.sources_say_what_is_at_an_offset.Given as goal

abbrev pub ghost-see_sources : goal.ghost-see_sources
ghost-see_sources g a = a.self.now

abbrev pub ghost-operand : goal.ghost-operand
ghost-operand g a = a.self.now
