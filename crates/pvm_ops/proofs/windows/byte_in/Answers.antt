use Rattle.std.proofs.Common.{◌*◌, ◌/◌, ◌%◌, ◌^◌, ap, arith, ◌∙◌}
use Rattle.pvm_ops.proofs.Shifts.{byte_at_place}
use Rattle.pvm_ops.proofs.windows.byte_in.Goals as goal

pub returns : goal.returns
returns c =
    ap (λ x. x / 2 ^ (8 * c.args.place) % 256) c.requires.word
    ∙ byte_at_place c.args.bytes.now (λ i. (c.type_inv.bytes i).fits) c.args.at c.args.place c.requires.place
