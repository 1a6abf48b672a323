use Rattle.lift_blocks.proofs.named_places.Named.add_section.Given as goal

abbrev pub ghost-add_table : goal.ghost-add_table
ghost-add_table g a = g.wanted
