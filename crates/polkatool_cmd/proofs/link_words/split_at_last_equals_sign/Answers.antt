use Rattle.std.proofs.Common.{◌≡◌, ◌-◌, take, drop, sym, ap, ◌∙◌, eq-eqb, arith}
use Rattle.std.proofs.lemmas.List.{take_all, length-drop}
use Rattle.polkatool_cmd.proofs.LastSign.{before_last-sign, after_last-sign}
use Rattle.polkatool_cmd.proofs.link_words.split_at_last_equals_sign.Goals as goal

pub returns-then-value-end-eq61-clause-before : goal.returns-then-value-end-eq61-clause-before
returns-then-value-end-eq61-clause-before c =
    sym (before_last-sign _ _ c.loop-end.invariant.within c.loop-end.invariant.other (λ _. eq-eqb _ _ c.if-value-end-eq61.true))

pub returns-then-value-end-eq61-clause-after : goal.returns-then-value-end-eq61-clause-after
returns-then-value-end-eq61-clause-after c =
    take_all _ _ (simp length-drop (omega arith)) ∙ sym (after_last-sign _ _ c.loop-end.invariant.within c.loop-end.invariant.other (λ _. eq-eqb _ _ c.if-value-end-eq61.true))

pub returns-clause-before : goal.returns-clause-before
returns-clause-before c =
    let none : 0 ≡ c.loop-end.end - 1 = omega arith in
    ap (λ n. take n c.args.value.now) none ∙ sym (before_last-sign c.loop-end.end _ c.loop-end.invariant.within c.loop-end.invariant.other (λ some. absurd (omega arith)))

pub returns-clause-after : goal.returns-clause-after
returns-clause-after c =
    let none : 0 ≡ c.loop-end.end = omega arith in
    ap (λ n. drop n c.args.value.now) none ∙ sym (after_last-sign c.loop-end.end _ c.loop-end.invariant.within c.loop-end.invariant.other (λ some. absurd (omega arith)))
