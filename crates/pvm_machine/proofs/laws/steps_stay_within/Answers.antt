use Rattle.pvm_machine.proofs.Bounded.{steps_stay_within}
use Rattle.pvm_machine.proofs.laws.steps_stay_within.Goals as goal

pub returns : goal.returns
returns c = steps_stay_within
