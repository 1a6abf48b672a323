use Rattle.std.proofs.Common.{◌≡◌, map, take}
use Rattle.std.specs.List.{filter_map}
use Rattle.lift_blocks.specs.Kept.{site_of}
use Rattle.lift_blocks.specs.Listed.{target_of}
use Rattle.lift_blocks.specs.Listing.{at_places}
use Rattle.lift_blocks.specs.Marks.{with_marks}
use Rattle.lift_blocks.proofs.listing.mark_targets.Given as goal

abbrev pub invariant-loop-at : goal.invariant-loop-at
invariant-loop-at l = l.marks ≡ with_marks (map site_of l.places) l.initial.marks (filter_map target_of (take l.at (at_places (map site_of l.places) l.ops)))
