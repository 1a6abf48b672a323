use Rattle.faults.specs.First.{first_below, where_true}
use Rattle.symbols.specs.Parts.{same}
use Rattle.symbols.specs.Wanted.{import_name_at}
use Rattle.symbols.specs.Names.{Adds, imported_as}
use Rattle.symbols.proofs.meanings.add_imports.Given as goal

abbrev pub invariant-loop-at : goal.invariant-loop-at
invariant-loop-at l = Adds l.initial.names l.names (λ name. imported_as (first_below l.at (λ at. where_true (same name (import_name_at l.wanted at)) at)))
