use Rattle.inner_machines.proofs.Outer.{outer_stays}
use Rattle.inner_machines.proofs.laws.outer_stays.Goals as goal

pub returns : goal.returns
returns c = outer_stays c.stores_keep_pages.ensures c.ranges_are_allowed.ensures.ends
