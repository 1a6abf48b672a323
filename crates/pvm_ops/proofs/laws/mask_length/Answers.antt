use Rattle.pvm_ops.proofs.Masks.{length-packed}
use Rattle.pvm_ops.proofs.laws.mask_length.Goals as goal

pub returns : goal.returns
returns c = length-packed
