use Rattle.std.proofs.Common.{◌≡◌, None, sym, ◌∙◌, ap}
use Rattle.faults.specs.Present.{first_in}
use Rattle.faults.proofs.Heads.{none_in}
use Rattle.symbols.specs.Wanted.{given_of}
use Rattle.symbols.specs.Resolution.{answer_of}
use Rattle.symbols.specs.Faults.{symbol_faults}
use Rattle.symbols.specs.Rows.{places_of_symbols, places_of_entries, HasAnswers}
use Rattle.symbols.proofs.Resolving.{is_resolved}
use Rattle.symbols.proofs.resolver.resolve.Goals as goal

pub returns : goal.returns
returns c =
    let given = given_of c.args.objects.now c.args.wanted.now in
    let same_given : given_of c.in_ok-link.link.objects.now c.in_ok-link.link.wanted.now ≡ given = (λ j. given_of (c.in_ok-link.ensures.objects j) (c.in_ok-link.ensures.wanted j)) in
    let none : first_in (symbol_faults given) ≡ None = ap (λ g. first_in (symbol_faults g)) (sym same_given) ∙ sym c.in_ok-fault.ensures ∙ c.in_default.is in
    let symbols : c.in_ok-symbols.symbols.items ≡ places_of_symbols given = c.in_ok-symbols.ensures ∙ ap places_of_symbols same_given in
    let entries : c.in_ok-entries.entries ≡ places_of_entries given = c.in_ok-entries.ensures ∙ ap places_of_entries same_given in
    let answers : HasAnswers given c.in_ok-answers.answers = (λ name. c.in_ok-answers.ensures name ∙ ap (λ g. answer_of g name) same_given) in
    (rw c.new-2.ensures (is_resolved given _ _ _ symbols entries answers), none_in (symbol_faults given) none)
