use Rattle.std.proofs.Common.{◌≡◌, None}
use Rattle.faults.specs.First.{where_true, first_below}
use Rattle.symbols.specs.Parts.{same}
use Rattle.symbols.specs.Wanted.{import_name_at}
use Rattle.symbols.proofs.wanted.Wanted.find_import.Given as goal

abbrev pub invariant-loop-at : goal.invariant-loop-at
invariant-loop-at l = first_below l.at (λ at. where_true (same l.name (import_name_at l.self at)) at) ≡ None
