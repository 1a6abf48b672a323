use Rattle.std.proofs.Common.{◌*◌, ◌/◌, ◌%◌, ◌^◌, ap, arith, ◌∙◌}
use Rattle.pvm_ops.proofs.Shifts.{window_at_place}
use Rattle.pvm_ops.proofs.windows.window_in.Goals as goal

pub returns : goal.returns
returns c = λ n l.
    ap (λ x. x / 2 ^ (8 * c.args.place) % 4294967296 % 2 ^ (8 * n)) c.requires.word
    ∙ window_at_place c.args.bytes.now (λ i. (c.type_inv.bytes i).fits) c.args.at c.args.place n c.requires.place l
