use Rattle.polkatool_tests.proofs.link_tests.data_hold_values_and_slots.Given as goal

abbrev pub ghost-images : goal.ghost-images
ghost-images g a = a.self.now
