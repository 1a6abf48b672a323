use Rattle.std.proofs.Common.{◌≡◌, ◌++◌, ◌≤◌, length, map, drop}
use Rattle.lift_blocks.specs.Kept.{site_of}
use Rattle.lift_blocks.specs.Marks.{chosen}
use Rattle.lift_blocks.proofs.MapOrder.{EndsBefore}
use Rattle.lift_blocks.proofs.mapping.code_map.Given as goal

abbrev pub invariant-loop-at : goal.invariant-loop-at
invariant-loop-at g l = record {
  places : l.map ++ chosen (drop l.at l.named) (drop l.at (map site_of l.places)) ≡ chosen l.named (map site_of l.places);
  few : length l.map ≤ l.at;
  before : EndsBefore g.given (map site_of l.places) l.map l.at;
}
