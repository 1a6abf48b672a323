use Rattle.pvm_ops.proofs.Padding.{packed_is_padded}
use Rattle.pvm_ops.proofs.laws.mask_is_padded.Goals as goal

pub returns : goal.returns
returns c = packed_is_padded
