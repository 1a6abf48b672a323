use Rattle.jump_table.specs.Settling.{ArePlaced, Grown}
use Rattle.jump_table.proofs.settling.look.Given as goal

abbrev pub invariant-loop-block : goal.invariant-loop-block
invariant-loop-block l = record {
  placed : ArePlaced l.shapes l.lengths.items l.places;
  grown : Grown l.shapes l.fn.lengths.items l.lengths.items;
}
