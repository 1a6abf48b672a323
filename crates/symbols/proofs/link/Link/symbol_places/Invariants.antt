use Rattle.std.proofs.Common.{◌≡◌}
use Rattle.symbols.specs.Wanted.{given_of}
use Rattle.symbols.specs.Rows.{values_below, places_of_object}
use Rattle.symbols.proofs.link.Link.symbol_places.Given as goal

abbrev pub invariant-loop-object : goal.invariant-loop-object
invariant-loop-object l = l.rows.items ≡ values_below l.object (places_of_object (given_of l.self.objects.now l.self.wanted.now))
