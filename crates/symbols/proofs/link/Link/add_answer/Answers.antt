use Rattle.std.proofs.Common.{◌≡◌, Some, None, sym, ◌∙◌, ap}
use Rattle.symbols.specs.Wanted.{given_of}
use Rattle.symbols.specs.Resolution.{answer_at, answer_of}
use Rattle.symbols.proofs.Answering.{AddsAnswer-some, AddsAnswer-none}
use Rattle.symbols.proofs.link.Link.add_answer.Goals as goal

pub returns-in_ok-set : goal.returns-in_ok-set
returns-in_ok-set c =
    let given = given_of c.args.self.now.objects.now c.args.self.now.wanted.now in
    let has : answer_of given c.args.name.now ≡ Some c.in-Some.answer = ap answer_at (sym c.name_place.ensures) ∙ sym c.answer_at_place.ensures ∙ c.in-Some.is in
    AddsAnswer-some given c.args.name.now c.args.answers.now _ c.in-Some.answer has c.in_ok-set.ensures

pub returns-in_default : goal.returns-in_default
returns-in_default c =
    let given = given_of c.args.self.now.objects.now c.args.self.now.wanted.now in
    let has : answer_of given c.args.name.now ≡ None = ap answer_at (sym c.name_place.ensures) ∙ sym c.answer_at_place.ensures ∙ c.in_default.is in
    AddsAnswer-none given c.args.name.now c.args.answers.now has
