use Rattle.pvm_ops.proofs.SignParts.{by_half}
use Rattle.pvm_ops.proofs.words.sign_extended.Goals as goal

pub returns : goal.returns
returns c = rw (c.power_of_256-power.ensures.value, c.from.ensures) (by_half c.args.len c.args.word c.requires)
