use Rattle.std.proofs.Common.{◌≡◌, ◌-◌, ◌<◌, ◌≤◌, length}
use Rattle.std.specs.Prelude.{slice_range}
use Rattle.lower.specs.Lowering.{part_instrs}
use Rattle.lower.specs.Building.{extended}
use Rattle.lower.proofs.block.add_operations.Given as goal

abbrev pub invariant-loop-at : goal.invariant-loop-at
invariant-loop-at l = record {
  within : l.at ≤ l.to;
  some : 0 < length l.blocks.blocks;
  left : extended (part_instrs l.lifted.needed (slice_range l.lifted.ops l.at l.to)) l.blocks ≡ extended (part_instrs l.lifted.needed (slice_range l.lifted.ops l.from l.to)) l.initial.blocks;
}

abbrev pub decreases-loop-at : goal.decreases-loop-at
decreases-loop-at l = l.to - l.at
