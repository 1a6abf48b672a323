use Rattle.inner_machines.proofs.Sharing.{calls_share_pages}
use Rattle.inner_machines.proofs.laws.calls_share_pages.Goals as goal

pub returns : goal.returns
returns c = calls_share_pages c.stores_keep_pages.ensures
