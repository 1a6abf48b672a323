use Rattle.std.proofs.Common.{◌∙◌, ap}
use Rattle.symbols.specs.Names.{meaning_in}
use Rattle.symbols.proofs.Lookups.{lookup-ordered}
use Rattle.symbols.proofs.names.Names.get.Goals as goal

pub returns : goal.returns
returns c =
    c.copied.ensures ∙ c.get.ensures.value ∙ lookup-ordered (λ k. k.now) c.args.name.now c.self.inside.index.entries
    ∙ c.self.invariant.same_meaning c.args.name.now
    ∙ ap (λ names. meaning_in names c.args.name.now) c.self.view_is
