use Rattle.symbols.specs.Resolution.{definition_at}
use Rattle.symbols.specs.Names.{defined}
use Rattle.symbols.proofs.Adding.{Adds-below}
use Rattle.symbols.proofs.meanings.add_definitions_of.Goals as goal

pub loop-number-preserved : goal.loop-number-preserved
loop-number-preserved c =
    Adds-below defined c.args.names.now c.loop-number.names _ (λ name. definition_at c.args.objects.now c.args.binding name c.args.object) c.loop-number.number c.loop-number.invariant c.in_ok-add_definition.ensures
