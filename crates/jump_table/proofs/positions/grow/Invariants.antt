use Rattle.jump_table.proofs.Least.{Swept}
use Rattle.jump_table.proofs.positions.grow.Given as goal

abbrev pub invariant-loop-at : goal.invariant-loop-at
invariant-loop-at l = Swept l.shapes l.fn.lengths.items l.lengths.items l.grown l.at
