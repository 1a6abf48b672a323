use Rattle.std.specs.Option.{option_map}
use Rattle.faults.specs.First.{first_below}
use Rattle.symbols.specs.Resolution.{definition_at}
use Rattle.symbols.specs.Names.{Adds, defined}
use Rattle.symbols.proofs.meanings.add_definitions_of.Given as goal

abbrev pub invariant-loop-number : goal.invariant-loop-number
invariant-loop-number l = Adds l.initial.names l.names (λ name. option_map defined (first_below l.number (definition_at l.objects l.binding name l.object)))
