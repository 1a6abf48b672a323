use Rattle.std.specs.Option.{option_map}
use Rattle.faults.specs.First.{first_below}
use Rattle.symbols.specs.Resolution.{first_in_object}
use Rattle.symbols.specs.Names.{Adds, defined}
use Rattle.symbols.proofs.meanings.add_definitions.Given as goal

abbrev pub invariant-loop-object : goal.invariant-loop-object
invariant-loop-object l = Adds l.initial.names l.names (λ name. option_map defined (first_below l.object (first_in_object l.objects l.binding name)))
