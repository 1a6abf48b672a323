use Rattle.lower.proofs.operations.lower_operation.Goals as goal
use Rattle.lower.proofs.Alone.{all_are_listed, listed_are_plain, has_effect}

pub returns-clause-all : goal.returns-clause-all
returns-clause-all c = rw c.instructions.ensures (all_are_listed c.args.op.now c.requires)

pub returns-clause-plain : goal.returns-clause-plain
returns-clause-plain c = rw c.instructions.ensures (listed_are_plain c.args.op.now c.requires)

pub returns-clause-effect : goal.returns-clause-effect
returns-clause-effect c = rw c.instructions.ensures (has_effect c.args.op.now c.requires)
