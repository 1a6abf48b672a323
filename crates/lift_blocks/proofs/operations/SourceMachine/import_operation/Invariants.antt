use Rattle.lift_blocks.proofs.operations.SourceMachine.import_operation.Given as goal

abbrev pub ghost-import_call : goal.ghost-import_call
ghost-import_call g a = g.given
