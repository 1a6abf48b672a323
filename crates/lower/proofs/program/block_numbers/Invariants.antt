use Rattle.std.proofs.Common.{◌≡◌, ℕ, ◌-◌, ◌<◌, ◌≤◌, length, get_or}
use Rattle.runs.specs.Blocks.{block_of}
use Rattle.lower.proofs.program.block_numbers.Given as goal

abbrev pub invariant-loop-at : goal.invariant-loop-at
invariant-loop-at l = record {
  count : length l.numbers.items ≡ l.at;
  few : l.block ≤ l.at - 1;
  last : l.block ≡ block_of l.lifted.begins (l.at - 1);
  each : (t : ℕ) → t < l.at → get_or l.numbers.items t 0 ≡ block_of l.lifted.begins t;
}
