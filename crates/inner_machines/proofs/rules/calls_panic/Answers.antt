use Rattle.inner_machines.proofs.Kept.{calls_panic}
use Rattle.inner_machines.proofs.rules.calls_panic.Goals as goal

pub returns : goal.returns
returns c = calls_panic
