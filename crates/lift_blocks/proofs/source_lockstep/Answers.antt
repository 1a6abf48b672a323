use Rattle.lift_blocks.proofs.InLockstep.{in_lockstep}
use Rattle.lift_blocks.proofs.source_lockstep.Goals as goal

pub returns : goal.returns
returns c = in_lockstep
