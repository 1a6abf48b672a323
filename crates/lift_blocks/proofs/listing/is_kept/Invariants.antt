use Rattle.lift_blocks.proofs.listing.is_kept.Given as goal

abbrev pub ghost-is_end : goal.ghost-is_end
ghost-is_end g a = g.given
