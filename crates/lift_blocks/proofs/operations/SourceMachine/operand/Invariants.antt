use Rattle.lift_blocks.proofs.operations.SourceMachine.operand.Given as goal

abbrev pub ghost-relocations : goal.ghost-relocations
ghost-relocations g a = g.given

abbrev pub ghost-operand : goal.ghost-operand
ghost-operand g a = g.given
