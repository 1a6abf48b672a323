use Rattle.inner_machines.proofs.Sharing.{work_is_paid}
use Rattle.inner_machines.proofs.laws.work_is_paid.Goals as goal

pub returns : goal.returns
returns c = work_is_paid c.stores_keep_pages.ensures
