use Rattle.lift_blocks.proofs.operations.SourceMachine.plain.Given as goal

abbrev pub ghost-plain_word : goal.ghost-plain_word
ghost-plain_word g a = g.given
