use Rattle.std.proofs.Common.{◌≡◌, ◌≤◌, ◌++◌, drop}
use Rattle.lift_blocks.specs.Marks.{counts_from}
use Rattle.lift_blocks.proofs.renumbering.counts.Given as goal

abbrev pub invariant-loop-at : goal.invariant-loop-at
invariant-loop-at l = record {
  counts : l.counts.items ++ counts_from l.count (drop l.at l.listed) ≡ counts_from 0 l.listed;
  few : l.count ≤ l.at;
}
