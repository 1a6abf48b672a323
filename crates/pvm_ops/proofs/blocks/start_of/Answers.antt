use Rattle.std.proofs.Common.{sym}
use Rattle.pvm_ops.proofs.Cutting.{start_behind}
use Rattle.pvm_ops.proofs.blocks.start_of.Goals as goal

pub returns-then-at-gt0 : goal.returns-then-at-gt0
returns-then-at-gt0 c = sym (start_behind 0 c.args.blocks.now c.args.at _ c.if-at-gt0.true c.requires)
