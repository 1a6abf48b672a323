use Rattle.pvm_ops.proofs.ReadBack.{reads-back}
use Rattle.pvm_ops.proofs.laws.reads_back.Goals as goal

pub returns : goal.returns
returns c = reads-back
