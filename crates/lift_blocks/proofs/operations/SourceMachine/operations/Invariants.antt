use Rattle.std.proofs.Common.{map, take}
use Rattle.lift_blocks.specs.Kept.{site_of}
use Rattle.lift_blocks.specs.Listing.{AreOperations}
use Rattle.lift_blocks.proofs.operations.SourceMachine.operations.Given as goal

abbrev pub ghost-numbered : goal.ghost-numbered
ghost-numbered g a = g.given

abbrev pub invariant-loop-at : goal.invariant-loop-at
invariant-loop-at g l = AreOperations g.given (map site_of l.places) (map site_of (take l.at l.places)) l.ops.items
