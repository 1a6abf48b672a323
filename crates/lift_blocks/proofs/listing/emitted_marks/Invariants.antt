use Rattle.lift_blocks.proofs.listing.emitted_marks.Given as goal

abbrev pub ghost-mark_successor : goal.ghost-mark_successor
ghost-mark_successor g a = g.given

abbrev pub ghost-kept_marks : goal.ghost-kept_marks
ghost-kept_marks g a = g.given
