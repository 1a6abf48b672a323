use Rattle.lift_blocks.proofs.reader.Reader.link_at.Given as goal

abbrev pub ghost-op_at : goal.ghost-op_at
ghost-op_at g a = g.given

abbrev pub ghost-next_place : goal.ghost-next_place
ghost-next_place g a = g.given

abbrev pub ghost-last_word : goal.ghost-last_word
ghost-last_word g a = g.given
