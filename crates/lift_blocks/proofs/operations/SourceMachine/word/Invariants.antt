use Rattle.lift_blocks.proofs.operations.SourceMachine.word.Given as goal

abbrev pub ghost-placed : goal.ghost-placed
ghost-placed g a = g.given
