use Rattle.std.proofs.Common.{◌≡◌, true, rules}
use Rattle.symbols.specs.declared.names.Meaning.TheVariants.{Defined}
use Rattle.symbols.specs.Parts.{symbol_at}
use Rattle.symbols.specs.Resolution.{is_definition}
use Rattle.symbols.specs.Names.{added}
use Rattle.symbols.proofs.Adding.{Adds-definition}
use Rattle.symbols.proofs.meanings.add_definition.Goals as goal

pub returns-in_ok-add : goal.returns-in_ok-add
returns-in_ok-add c =
    let is : is_definition c.args.binding c.args.number (symbol_at c.args.objects.now c.args.object c.args.number) ≡ true = search rules in
    let now : c.add.new.self ≡ added c.args.names.now (symbol_at c.args.objects.now c.args.object c.args.number).name (Defined c.args.object c.args.number) = rw (← c.symbol_of-symbol.ensures.name) c.in_ok-add.ensures in
    Adds-definition c.args.names.now c.add.new.self c.args.objects.now c.args.binding c.args.object c.args.number is now
