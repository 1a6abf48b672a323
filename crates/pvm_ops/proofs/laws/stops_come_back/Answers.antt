use Rattle.pvm_ops.proofs.Masks.{is_stop-packed}
use Rattle.pvm_ops.proofs.laws.stops_come_back.Goals as goal

pub returns : goal.returns
returns c = is_stop-packed
