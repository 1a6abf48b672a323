use Rattle.lift_blocks.proofs.Bounds.{bounds_stay}
use Rattle.lift_blocks.proofs.bounds_stay.Goals as goal

pub returns : goal.returns
returns c = bounds_stay
