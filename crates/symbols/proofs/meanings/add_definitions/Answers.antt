use Rattle.symbols.specs.Resolution.{first_in_object}
use Rattle.symbols.specs.Names.{defined}
use Rattle.symbols.proofs.Adding.{Adds-below}
use Rattle.symbols.proofs.meanings.add_definitions.Goals as goal

pub loop-object-preserved : goal.loop-object-preserved
loop-object-preserved c =
    Adds-below defined c.args.names.now c.loop-object.names _ (first_in_object c.args.objects.now c.args.binding) c.loop-object.object c.loop-object.invariant c.in_ok-add_definitions_of.ensures
