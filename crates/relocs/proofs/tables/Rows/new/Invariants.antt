use Rattle.std.proofs.Common.{◌≡◌, ℕ, length}
use Rattle.std.specs.Prelude.{slice_get, Some}
use Rattle.relocs.specs.ByOffset.{Row, IsRowOf}
use Rattle.relocs.proofs.tables.Rows.new.Given as goal

abbrev pub invariant-loop-section : goal.invariant-loop-section
invariant-loop-section l = record {
  count : length l.rows.items ≡ l.section;
  each : (s : ℕ) (row : Row) → slice_get l.rows.items s ≡ Some row → IsRowOf l.object s row;
}
