use Rattle.std.proofs.Common.{◌≡◌, ℕ, ◌+◌, ◌<◌, ◌≤◌, length}
use Rattle.std.specs.Prelude.{slice_index}
use Rattle.jump_table.proofs.settling.add.Given as goal

abbrev pub invariant-loop-at : goal.invariant-loop-at
invariant-loop-at l = record {
  count : length l.numbers.items ≡ length l.fn.numbers.items;
  before : (k : ℕ) → k < l.from → slice_index l.numbers.items k ≡ slice_index l.fn.numbers.items k;
  among : (k : ℕ) → l.from ≤ k → k < l.at → slice_index l.numbers.items k ≡ slice_index l.fn.numbers.items k + l.by;
  rest : (k : ℕ) → l.at ≤ k → slice_index l.numbers.items k ≡ slice_index l.fn.numbers.items k;
}
