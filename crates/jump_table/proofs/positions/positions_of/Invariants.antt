use Rattle.std.proofs.Common.{◌≡◌, ℕ, ◌-◌, ◌*◌, List, length, sum}
use Rattle.jump_table.specs.Lengths.{Below}
use Rattle.jump_table.specs.Shapes.{Wide, AtMost4}
use Rattle.jump_table.proofs.positions.positions_of.Given as goal

abbrev pub invariant-loop-starts : goal.invariant-loop-starts
invariant-loop-starts l = record {
  lengths_count : length l.lengths.items ≡ length l.shapes.items;
  starts_count : length l.starts.items ≡ length l.shapes.items;
  most : AtMost4 l.lengths.items;
  least : (other : List ℕ) → Wide l.shapes.items other → Below l.lengths.items other;
}

abbrev pub decreases-loop-starts : goal.decreases-loop-starts
decreases-loop-starts l = 4 * length l.shapes.items - sum l.lengths.items
