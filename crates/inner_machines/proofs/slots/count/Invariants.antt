use Rattle.std.proofs.Common.{◌≡◌, ◌≤◌}
use Rattle.inner_machines.specs.Inner.{total}
use Rattle.inner_machines.specs.Views.{inners_of}
use Rattle.inner_machines.proofs.slots.count.Given as goal

abbrev pub invariant-loop-at : goal.invariant-loop-at
invariant-loop-at l = (l.count ≡ total (λ inner. 1) l.at (inners_of l.slots)) × (l.count ≤ l.at)
