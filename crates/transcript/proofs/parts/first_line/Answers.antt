use Rattle.std.proofs.Common.{[], ◌∷◌, sym, ap, ◌∙◌}
use Rattle.transcript.proofs.Reading.{lines-more, lines-last, lines-none}
use Rattle.transcript.proofs.parts.first_line.Goals as goal

pub returns-in-Some-clause-line : goal.returns-in-Some-clause-line
returns-in-Some-clause-line c =
    lines-more c.args.bytes.now c.first_part.result.0.now c.in-Some.rest.now (rw c.in-Some.is at c.first_part.ensures.parts)

pub returns-in-None-clause-line : goal.returns-in-None-clause-line
returns-in-None-clause-line c =
    let whole = rw c.in-None.is at c.first_part.ensures.parts in
    lines-last c.args.bytes.now c.requires whole.1 ∙ ap (λ l. l ∷ []) (sym whole.0) ∙ ap (λ l. c.first_part.result.0.now ∷ l) (sym lines-none)
