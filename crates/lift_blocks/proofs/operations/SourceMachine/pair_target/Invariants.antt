use Rattle.lift_blocks.proofs.operations.SourceMachine.pair_target.Given as goal

abbrev pub ghost-target_site : goal.ghost-target_site
ghost-target_site g a = g.given
