use Rattle.lift_blocks.proofs.reader.Reader.link.Given as goal

abbrev pub ghost-link_at : goal.ghost-link_at
ghost-link_at g a = g.given
