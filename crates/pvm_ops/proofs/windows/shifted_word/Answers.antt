use Rattle.std.proofs.Common.{◌-◌, ◌*◌, ◌/◌, ◌^◌, ap, arith, ◌∙◌}
use Rattle.pvm_ops.proofs.Shifts.{shifted_word}
use Rattle.pvm_ops.proofs.windows.shifted_word.Goals as goal

pub returns : goal.returns
returns c =
    let k = c.args.at - c.args.start in
    ap (λ x. x / 2 ^ (8 * k)) c.inner_word.ensures
    ∙ shifted_word c.args.bytes.now (λ i. (c.type_inv.bytes i).fits) c.args.start c.args.at k (omega arith) (omega arith) (λ l. c.requires.last (omega arith))
