use Rattle.lift_blocks.proofs.operations.SourceMachine.placed.Given as goal

abbrev pub ghost-link : goal.ghost-link
ghost-link g a = g.given

abbrev pub ghost-target : goal.ghost-target
ghost-target g a = g.given
