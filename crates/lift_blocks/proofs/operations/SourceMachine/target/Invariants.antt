use Rattle.lift_blocks.proofs.operations.SourceMachine.target.Given as goal

abbrev pub ghost-target_site : goal.ghost-target_site
ghost-target_site g a = g.given
