use Rattle.runs.proofs.World.{lockstep_world}
use Rattle.runs.proofs.world_is_in_lockstep.Goals as goal

pub returns : goal.returns
returns c = λ act act' code places position fetch lockstep. lockstep_world act act' code places position fetch lockstep
