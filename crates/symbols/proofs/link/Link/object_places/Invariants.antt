use Rattle.std.proofs.Common.{◌≡◌}
use Rattle.symbols.specs.Wanted.{given_of}
use Rattle.symbols.specs.Resolution.{resolution}
use Rattle.symbols.specs.Rows.{values_below}
use Rattle.symbols.proofs.link.Link.object_places.Given as goal

abbrev pub invariant-loop-number : goal.invariant-loop-number
invariant-loop-number l = l.places ≡ values_below l.number (resolution (given_of l.self.objects.now l.self.wanted.now) l.object)
