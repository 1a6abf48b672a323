use Rattle.std.proofs.Common.{◌≡◌, ◌++◌, true, drop, map}
use Rattle.lift_blocks.specs.Kept.{operation_of}
use Rattle.lift_blocks.specs.Listing.{begins_from}
use Rattle.lift_blocks.proofs.listing.begins.Given as goal

abbrev pub invariant-loop-at : goal.invariant-loop-at
invariant-loop-at l = l.begins.items ++ begins_from l.ended (drop l.at l.targeted) (map operation_of (drop l.at l.ops)) ≡ begins_from true l.targeted (map operation_of l.ops)
