use Rattle.lift_blocks.proofs.listing.is_end.Given as goal

abbrev pub ghost-size : goal.ghost-size
ghost-size g a = g.given
