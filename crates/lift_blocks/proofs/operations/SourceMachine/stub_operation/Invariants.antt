use Rattle.lift_blocks.proofs.operations.SourceMachine.stub_operation.Given as goal

abbrev pub ghost-import_operation : goal.ghost-import_operation
ghost-import_operation g a = g.given
