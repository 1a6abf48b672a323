use Rattle.std.proofs.Common.{◌*◌, ap, sym, ◌∙◌}
use Rattle.numbers.specs.Words.{sign_extend}
use Rattle.numbers.proofs.WordsLaws.{sign_extend-mod}
use Rattle.pvm_ops.proofs.decode.short_in.Goals as goal

pub returns : goal.returns
returns c =
    c.sign_extended.ensures
    ∙ sym (sign_extend-mod (8 * c.args.len) c.window_in.result)
    ∙ ap (sign_extend (8 * c.args.len)) (c.window_in.ensures c.args.len c.requires.few)
