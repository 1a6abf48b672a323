use Rattle.lift_blocks.proofs.needed.named_marks.Given as goal

abbrev pub ghost-mark_named : goal.ghost-mark_named
ghost-mark_named g a = g.wanted
