use Rattle.std.proofs.Common.{map, take}
use Rattle.lift_blocks.specs.Kept.{site_of}
use Rattle.lift_blocks.specs.Listing.{AreNumbersOf}
use Rattle.lift_blocks.proofs.numbering.Numbers.numbers_of.Given as goal

abbrev pub invariant-loop-at : goal.invariant-loop-at
invariant-loop-at l = AreNumbersOf (map site_of l.self.places.now) (take l.at (map site_of l.these)) l.found.items
