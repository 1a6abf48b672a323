use Rattle.std.proofs.Common.{◌≡◌, ℕ, ◌-◌, ◌<◌, ◌≤◌, true, false, length, get_or}
use Rattle.lower.proofs.program.end_of_block.Given as goal

abbrev pub invariant-loop-to : goal.invariant-loop-to
invariant-loop-to l = record {
  after : l.from < l.to;
  within : l.to ≤ length l.lifted.ops;
  unmarked : (k : ℕ) → l.from < k → k < l.to → get_or l.lifted.begins k true ≡ false;
}

abbrev pub decreases-loop-to : goal.decreases-loop-to
decreases-loop-to l = length l.lifted.ops - l.to
