use Rattle.std.proofs.Common.{◌≡◌, ℕ, List, length}
use Rattle.std.specs.Prelude.{slice_get, Some}
use Rattle.symbols.specs.Parts.{object_at}
use Rattle.relocs.specs.ByOffset.{Row, HasRows}
use Rattle.relocs.proofs.tables.Tables.new.Given as goal

abbrev pub invariant-loop-object : goal.invariant-loop-object
invariant-loop-object l = record {
  count : length l.tables.items ≡ l.object;
  each : (o : ℕ) (rows : List Row) → slice_get l.tables.items o ≡ Some rows → HasRows (object_at l.objects o) rows;
}
