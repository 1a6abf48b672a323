use Rattle.pvm_ops.proofs.Masks.{is_marked-packed}
use Rattle.pvm_ops.proofs.laws.marks_come_back.Goals as goal

pub returns : goal.returns
returns c = is_marked-packed
