use Rattle.std.proofs.Common.{◌≡◌}
use Rattle.symbols.specs.Wanted.{given_of}
use Rattle.symbols.specs.Resolution.{entry_place}
use Rattle.symbols.specs.Rows.{values_below}
use Rattle.symbols.proofs.link.Link.entry_places.Given as goal

abbrev pub invariant-loop-entry : goal.invariant-loop-entry
invariant-loop-entry l = l.places ≡ values_below l.entry (entry_place (given_of l.self.objects.now l.self.wanted.now))
