use Rattle.inner_machines.proofs.Own.{own_calls_decide}
use Rattle.inner_machines.proofs.laws.own_calls_decide.Goals as goal

pub returns : goal.returns
returns c = own_calls_decide
