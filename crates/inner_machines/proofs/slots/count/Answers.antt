use Rattle.std.proofs.Common.{◌≡◌, ℕ, ◌+◌, length, ap, sym, ◌∙◌, arith}
use Rattle.std.specs.Prelude.{None}
use Rattle.std.proofs.Math.ListN.{get_or}
use Rattle.inner_machines.specs.Inner.{total, most_machines}
use Rattle.inner_machines.specs.Views.{inners_of}
use Rattle.inner_machines.proofs.Gaps.{read_slot}
use Rattle.inner_machines.proofs.Totals.{none_counted, one_more_counted, counted_in_all}
use Rattle.inner_machines.proofs.slots.count.Goals as goal

pub loop-at-init : goal.loop-at-init
loop-at-init c = (sym (none_counted (λ inner. 1) (inners_of c.args.slots.now)), omega arith)

pub loop-at-preserved : goal.loop-at-preserved
loop-at-preserved c =
    let here : get_or c.args.slots.now c.loop-at.at None ≡ c.index-slots-at.result = read_slot c.args.slots.now c.loop-at.at c.index-slots-at.result c.loop-at-test.true c.index-slots-at.is in
    let more = one_more_counted (λ inner. 1) c.args.slots.now c.loop-at.at c.loop-at.count c.index-slots-at.result c.loop-at.invariant.0 here in
    (ap (λ (n : ℕ). c.loop-at.count + n) c.one-count.ensures.value ∙ sym more, omega (arith, c.loop-at.invariant.1, c.one-count.ensures.few))

pub returns-clause-count : goal.returns-clause-count
returns-clause-count c =
    let end : c.loop-at.at ≡ length c.args.slots.now = omega (arith, c.loop-at-test.false, c.loop-at.auto.at-end) in
    c.loop-at.invariant.0 ∙ ap (λ (n : ℕ). total (λ inner. 1) n (inners_of c.args.slots.now)) end ∙ sym (counted_in_all (λ inner. 1) most_machines c.args.slots.now c.requires)
