use Rattle.std.proofs.Common.{◌≡◌, ◌-◌, ◌≤◌, ◌++◌, length, drop, map}
use Rattle.runs.specs.Blocks.{blocks}
use Rattle.lower.specs.Lowering.{lower_block}
use Rattle.lower.proofs.program.add_blocks.Given as goal

abbrev pub invariant-loop-at : goal.invariant-loop-at
invariant-loop-at l = record {
  within : l.at ≤ length l.lifted.ops;
  few : length l.list.blocks ≤ l.at;
  same : l.list ≡ record l.initial.list { blocks = l.list.blocks };
  built : l.list.blocks ++ map (lower_block l.lifted.needed l.lifted.begins) (blocks (drop l.at l.lifted.begins) (drop l.at l.lifted.ops)) ≡ map (lower_block l.lifted.needed l.lifted.begins) (blocks l.lifted.begins l.lifted.ops);
}

abbrev pub decreases-loop-at : goal.decreases-loop-at
decreases-loop-at l = length l.lifted.ops - l.at
