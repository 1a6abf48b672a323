use Rattle.std.proofs.Common.{sym, ap, ◌∙◌}
use Rattle.polkatool_cmd.specs.Values.{begins_with_dash}
use Rattle.polkatool_cmd.proofs.ItemsLemmas.{items-end, items-file, items-unvalued, items-setting}
use Rattle.polkatool_cmd.proofs.items.first_item.Goals as goal

pub returns-in_err-word-clause-cut : goal.returns-in_err-word-clause-cut
returns-in_err-word-clause-cut c = rw c.from_residual.ensures (items-end _ c.in_err-word.ensures.cases)

pub returns-then-not-begins_with_dash-clause-cut : goal.returns-then-not-begins_with_dash-clause-cut
returns-then-not-begins_with_dash-clause-cut c =
    rw c.as_slice-word.ensures
    (items-file _ _ _ c.in_ok-word.ensures.cases.0
    (ap begins_with_dash (sym c.as_slice-word.ensures) ∙ sym c.begins_with_dash.ensures ∙ c.if-not-begins_with_dash.true))

pub returns-in-Some-clause-cut : goal.returns-in-Some-clause-cut
returns-in-Some-clause-cut c =
    rw (c.as_slice-word.ensures, c.as_slice.ensures)
    (items-setting _ _ _ _ _ c.in_ok-word.ensures.cases.0 c.in-Some.ensures.cases.0
    (ap begins_with_dash (sym c.as_slice-word.ensures) ∙ sym c.begins_with_dash.ensures ∙ c.if-not-begins_with_dash.false))

pub returns-in-None-clause-cut : goal.returns-in-None-clause-cut
returns-in-None-clause-cut c =
    rw c.as_slice-word.ensures
    (items-unvalued _ _ _ c.in_ok-word.ensures.cases.0 c.in-None.ensures.cases
    (ap begins_with_dash (sym c.as_slice-word.ensures) ∙ sym c.begins_with_dash.ensures ∙ c.if-not-begins_with_dash.false))
