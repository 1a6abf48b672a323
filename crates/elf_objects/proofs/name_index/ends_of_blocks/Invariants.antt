use Rattle.std.proofs.Common.{◌≡◌, ◌≤◌, ◌<◌, ◌+◌, ◌/◌, ℕ, length, get_or}
use Rattle.elf_objects.specs.NameEnds.{name_end, block_start}
use Rattle.elf_objects.proofs.name_index.ends_of_blocks.Given as goal

abbrev pub invariant-loop-block : goal.invariant-loop-block
invariant-loop-block l = record {
  within : l.block < length l.ends.items;
  long : length l.ends.items ≡ length l.table / 64 + 2;
  ends_are : (k : ℕ) → l.block ≤ k → k < length l.ends.items → get_or l.ends.items k 0 ≡ name_end l.table (block_start l.table k);
}

abbrev pub decreases-loop-block : goal.decreases-loop-block
decreases-loop-block l = l.block
