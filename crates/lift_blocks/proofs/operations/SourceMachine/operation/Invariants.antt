use Rattle.lift_blocks.proofs.operations.SourceMachine.operation.Given as goal

abbrev pub ghost-code_operation : goal.ghost-code_operation
ghost-code_operation g a = g.given

abbrev pub ghost-stub_operation : goal.ghost-stub_operation
ghost-stub_operation g a = g.given
