use Rattle.lift_blocks.proofs.lifting.lift.Given as goal

abbrev pub ghost-lift : goal.ghost-lift
ghost-lift a = a.self.now.wanted.now
