use Rattle.std.proofs.Common.{◌≡◌, map, take}
use Rattle.lift_blocks.specs.Kept.{site_of}
use Rattle.lift_blocks.specs.Marks.{with_marks}
use Rattle.lift_blocks.proofs.listing.mark_all.Given as goal

abbrev pub invariant-loop-at : goal.invariant-loop-at
invariant-loop-at l = l.marks ≡ with_marks (map site_of l.places) l.initial.marks (map site_of (take l.at l.these))
