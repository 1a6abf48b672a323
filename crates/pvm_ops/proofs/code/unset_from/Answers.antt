use Rattle.pvm_ops.proofs.LastMark.{highest}
use Rattle.pvm_ops.proofs.code.unset_from.Goals as goal

pub returns-clause-unset : goal.returns-clause-unset
returns-clause-unset c = (highest c.args.marks c.args.top c.requires).unset

pub returns-clause-set : goal.returns-clause-set
returns-clause-set c = (highest c.args.marks c.args.top c.requires).set
