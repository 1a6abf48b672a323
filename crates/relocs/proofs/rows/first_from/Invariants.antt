use Rattle.std.proofs.Common.{◌-◌, length}
use Rattle.relocs.specs.ByOffset.{IsBetween}
use Rattle.relocs.proofs.rows.first_from.Given as goal

abbrev pub invariant-loop-at : goal.invariant-loop-at
invariant-loop-at l = IsBetween l.row l.limit l.at (length l.row)

abbrev pub decreases-loop-at : goal.decreases-loop-at
decreases-loop-at l = length l.row - l.at
