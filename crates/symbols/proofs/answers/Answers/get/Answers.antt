use Rattle.std.proofs.Common.{◌∙◌, ap}
use Rattle.std.specs.Map.{lookup}
use Rattle.symbols.specs.Parts.{same}
use Rattle.symbols.proofs.Lookups.{lookup-ordered}
use Rattle.symbols.proofs.answers.Answers.get.Goals as goal

pub returns : goal.returns
returns c =
    c.copied.ensures ∙ c.get.ensures.value ∙ lookup-ordered (λ k. k.items) c.args.name.now c.self.inside.answers.entries
    ∙ ap (λ answers. lookup (same c.args.name.now) answers) c.self.view_is
