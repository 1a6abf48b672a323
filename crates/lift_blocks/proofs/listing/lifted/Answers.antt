use Rattle.std.proofs.Common.{arith}
use Rattle.std.proofs.lemmas.List.{length-map}
use Rattle.lift_blocks.specs.Kept.{site_of}
use Rattle.lift_blocks.proofs.ListedOps.{in_range}
use Rattle.lift_blocks.proofs.listing.lifted.Goals as goal

pub invariant_of-result : goal.invariant_of-result
invariant_of-result g c = in_range g.given _ c.requires.0 (omega (arith, length-map c.args.places.items site_of, c.requires.1.0)) c.requires.1.1.0 c.requires.1.1.1
