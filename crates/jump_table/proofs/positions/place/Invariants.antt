use Rattle.std.proofs.Common.{◌≡◌, ℕ, ◌+◌, ◌<◌, ◌≤◌, length}
use Rattle.std.specs.Prelude.{slice_index}
use Rattle.jump_table.specs.Assembling.{most_bytes}
use Rattle.jump_table.specs.Shapes.{start}
use Rattle.jump_table.proofs.positions.place.Given as goal

abbrev pub invariant-loop-at : goal.invariant-loop-at
invariant-loop-at l = record {
  count : length l.starts.items ≡ length l.shapes;
  are : (t : ℕ) → t < l.at → slice_index l.starts.items t ≡ l.base + start l.shapes l.lengths t;
  end : l.end ≡ l.base + start l.shapes l.lengths l.at;
  small : l.end ≤ most_bytes;
}
