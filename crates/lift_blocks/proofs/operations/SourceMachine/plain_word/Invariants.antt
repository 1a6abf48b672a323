use Rattle.lift_blocks.proofs.operations.SourceMachine.plain_word.Given as goal

abbrev pub ghost-op_at : goal.ghost-op_at
ghost-op_at g a = g.given

abbrev pub ghost-relocations : goal.ghost-relocations
ghost-relocations g a = g.given
