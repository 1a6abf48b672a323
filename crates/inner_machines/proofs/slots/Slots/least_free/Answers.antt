use Rattle.std.proofs.Common.{arith}
use Rattle.inner_machines.proofs.Least.{least_is, none_free}
use Rattle.inner_machines.proofs.slots.Slots.least_free.Goals as goal

pub returns-then-at-ge-MOST_MACHINES : goal.returns-then-at-ge-MOST_MACHINES
returns-then-at-ge-MOST_MACHINES c = none_free c.self.inside.slots.items _ c.first_gap-at.result c.self.view_is (rw c.deref.ensures.value at c.first_gap-at.ensures.before) (omega arith)

pub returns : goal.returns
returns c = least_is c.self.inside.slots.items _ c.first_gap-at.result c.self.view_is (rw c.deref.ensures.value at c.first_gap-at.ensures.before) (rw c.deref.ensures.value at c.first_gap-at.ensures.gap) (omega arith)
