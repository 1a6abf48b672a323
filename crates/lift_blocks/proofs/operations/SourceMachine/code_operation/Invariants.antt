use Rattle.lift_blocks.proofs.operations.SourceMachine.code_operation.Given as goal

abbrev pub ghost-op_at : goal.ghost-op_at
ghost-op_at g a = g.given

abbrev pub ghost-operand : goal.ghost-operand
ghost-operand g a = g.given

abbrev pub ghost-begins_pair : goal.ghost-begins_pair
ghost-begins_pair g a = g.given

abbrev pub ghost-pair : goal.ghost-pair
ghost-pair g a = g.given

abbrev pub ghost-word : goal.ghost-word
ghost-word g a = g.given
