use Rattle.pvm_ops.proofs.NextMark.{lowest}
use Rattle.pvm_ops.proofs.code.first_mark.Goals as goal

pub returns-clause-bound : goal.returns-clause-bound
returns-clause-bound c = (lowest c.args.marks c.ranges.marks.fits).bound

pub returns-clause-below : goal.returns-clause-below
returns-clause-below c = (lowest c.args.marks c.ranges.marks.fits).below

pub returns-clause-here : goal.returns-clause-here
returns-clause-here c = (lowest c.args.marks c.ranges.marks.fits).here
