use Rattle.std.proofs.Common.{◌≡◌, ◌∙◌, ap, refl, rules}
use Rattle.std.specs.Map.{lookup}
use Rattle.symbols.specs.Parts.{same}
use Rattle.symbols.proofs.Lookups.{seen_by, lookup-inserted}
use Rattle.symbols.proofs.answers.Answers.set.Goals as goal

pub returns : goal.returns
returns c =
    let copied : c.in_ok-name.name.items ≡ c.args.name.now = search rules in
    λ name.
    ap (λ es. lookup (same name) (seen_by (λ k. k.items) es)) c.in_ok-insert.ensures.entries
    ∙ lookup-inserted (λ k. k.items) c.self.inside.answers.entries c.in_ok-name.name c.args.answer name
    ∙ rw (c.self.view_is, copied) refl
