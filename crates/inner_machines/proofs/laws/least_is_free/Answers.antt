use Rattle.inner_machines.proofs.Least.{least_is_free}
use Rattle.inner_machines.proofs.laws.least_is_free.Goals as goal

pub returns : goal.returns
returns c = least_is_free
