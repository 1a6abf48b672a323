use Rattle.std.proofs.Common.{ap}
use Rattle.lift_blocks.specs.Kept.{operation_of}
use Rattle.lift_blocks.specs.Listed.{target_of}
use Rattle.lift_blocks.proofs.renumbering.Renumbering.operation.Goals as goal

pub number-requires : goal.number-requires
number-requires g c = (c.requires.0, (c.requires.1.0, c.requires.1.1.1 _ (ap (λ o. target_of (operation_of o)) c.in-Branch.is)))

pub number-requires-in-Jal : goal.number-requires-in-Jal
number-requires-in-Jal g c = (c.requires.0, (c.requires.1.0, c.requires.1.1.1 _ (ap (λ o. target_of (operation_of o)) c.in-Jal.is)))

pub number-requires-in-Pair : goal.number-requires-in-Pair
number-requires-in-Pair g c = (c.requires.0, (c.requires.1.0, c.requires.1.1.1 _ (ap (λ o. target_of (operation_of o)) c.in-Pair.is)))
