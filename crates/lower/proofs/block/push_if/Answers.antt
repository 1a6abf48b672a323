use Rattle.std.proofs.Common.{sym}
use Rattle.lower.proofs.Building.{extended-none}
use Rattle.lower.proofs.block.push_if.Goals as goal

pub returns-else-wanted : goal.returns-else-wanted
returns-else-wanted c = rw c.if-wanted.false (sym (extended-none c.args.blocks.now))
