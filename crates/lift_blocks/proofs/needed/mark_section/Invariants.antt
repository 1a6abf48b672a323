use Rattle.lift_blocks.proofs.needed.mark_section.Given as goal

abbrev pub ghost-mark_table : goal.ghost-mark_table
ghost-mark_table g a = g.wanted
