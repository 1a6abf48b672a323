use Rattle.lift_blocks.proofs.operations.SourceMachine.numbered.Given as goal

abbrev pub ghost-plain : goal.ghost-plain
ghost-plain g a = g.given

abbrev pub ghost-operation : goal.ghost-operation
ghost-operation g a = g.given
