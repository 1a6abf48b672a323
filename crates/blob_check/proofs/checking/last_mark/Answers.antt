use Rattle.std.proofs.Common.{◌≡◌, ◌+◌, ◌-◌, ap, arith, sym, ◌∙◌}
use Rattle.blob_check.specs.Faults.{last_mark}
use Rattle.blob_check.proofs.Faults.{last_mark-zero, last_mark-here, last_mark-below}
use Rattle.blob_check.proofs.checking.last_mark.Goals as goal

pub returns-then-marked-clause-last : goal.returns-then-marked-clause-last
returns-then-marked-clause-last c =
    let code = c.args.code.now in
    let after : c.loop-after.after ≡ c.loop-after.after - 1 + 1 = omega (arith, c.loop-after-test.true) in
    sym (c.loop-after.invariant.1 ∙ ap (last_mark code) after ∙ last_mark-here code (c.loop-after.after - 1) (sym c.marked.ensures ∙ c.if-marked.true))

pub loop-after-preserved : goal.loop-after-preserved
loop-after-preserved c =
    let code = c.args.code.now in
    let after : c.loop-after.after ≡ c.loop-after.after - 1 + 1 = omega (arith, c.loop-after-test.true) in
    (omega (arith, c.loop-after.invariant.0), c.loop-after.invariant.1 ∙ ap (last_mark code) after ∙ last_mark-below code (c.loop-after.after - 1) (sym c.marked.ensures ∙ c.if-marked.false))

pub returns-clause-last : goal.returns-clause-last
returns-clause-last c =
    let code = c.args.code.now in
    let none : c.loop-after.after ≡ 0 = omega (arith, c.loop-after-test.false) in
    sym (c.loop-after.invariant.1 ∙ ap (last_mark code) none ∙ last_mark-zero code)
