use Rattle.inner_machines.proofs.Stay.{others_stay}
use Rattle.inner_machines.proofs.laws.others_stay.Goals as goal

pub returns : goal.returns
returns c = others_stay
