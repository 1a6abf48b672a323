use Rattle.jump_table.specs.Settling.{ArePlaced, Grown}
use Rattle.jump_table.proofs.settling.settle.Given as goal

abbrev pub invariant-loop : goal.invariant-loop
invariant-loop l = record {
  placed : ArePlaced l.shapes l.lengths.items l.places;
  grown : Grown l.shapes l.fn.lengths.items l.lengths.items;
}
