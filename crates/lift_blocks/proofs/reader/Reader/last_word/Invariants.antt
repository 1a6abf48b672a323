use Rattle.lift_blocks.proofs.reader.Reader.last_word.Given as goal

abbrev pub ghost-is_pair_at : goal.ghost-is_pair_at
ghost-is_pair_at g a = g.given

abbrev pub ghost-op_at : goal.ghost-op_at
ghost-op_at g a = g.given
