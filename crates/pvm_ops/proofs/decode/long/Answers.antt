use Rattle.std.proofs.Common.{◌^◌, ◌<◌, ap, arith, sym, ◌∙◌}
use Rattle.numbers.specs.Words.{sign_extend}
use Rattle.pvm_ops.proofs.SignParts.{whole_word}
use Rattle.pvm_ops.proofs.decode.long.Goals as goal

pub returns : goal.returns
returns c =
    sym (whole_word c.word.result c.word.type_inv) ∙ ap (sign_extend 64) c.word.ensures
