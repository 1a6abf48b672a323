use Rattle.std.proofs.Common.{◌-◌}
use Rattle.relocs.specs.ByOffset.{IsBetween}
use Rattle.relocs.proofs.rows.bound.Given as goal

abbrev pub invariant-loop-low : goal.invariant-loop-low
invariant-loop-low l = IsBetween l.row l.limit l.low l.high

abbrev pub decreases-loop-low : goal.decreases-loop-low
decreases-loop-low l = l.high - l.low
