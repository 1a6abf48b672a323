use Rattle.lift_blocks.proofs.lifting.Link.places.Given as goal

abbrev pub ghost-survey : goal.ghost-survey
ghost-survey g a = g.names

abbrev pub ghost-named_marks : goal.ghost-named_marks
ghost-named_marks g a = g.names
