use Rattle.std.proofs.Common.{◌≡◌, ◌*◌, length}
use Rattle.relocs.specs.ByOffset.{HasStarts, IsBetween}
use Rattle.relocs.proofs.rows.starts_of.Given as goal

abbrev pub invariant-loop-word : goal.invariant-loop-word
invariant-loop-word l = record {
  count : length l.starts.items ≡ l.word;
  between : IsBetween l.row (4 * l.word) l.at (length l.row);
  has : HasStarts l.row l.starts.items;
}
