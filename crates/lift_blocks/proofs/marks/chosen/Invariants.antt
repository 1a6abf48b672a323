use Rattle.std.proofs.Common.{◌≡◌, ◌++◌, drop}
use Rattle.lift_blocks.specs.Marks.{chosen}
use Rattle.lift_blocks.proofs.marks.chosen.Given as goal

abbrev pub invariant-loop-at : goal.invariant-loop-at
invariant-loop-at g l = l.found.items ++ chosen (drop l.at l.marks) (drop l.at l.items) ≡ chosen l.marks l.items
