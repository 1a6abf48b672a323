use Rattle.lift_blocks.proofs.operations.SourceMachine.pair.Given as goal

abbrev pub ghost-op_at : goal.ghost-op_at
ghost-op_at g a = g.given

abbrev pub ghost-link : goal.ghost-link
ghost-link g a = g.given

abbrev pub ghost-pair_target : goal.ghost-pair_target
ghost-pair_target g a = g.given
