use Rattle.std.proofs.Common.{sym}
use Rattle.lower.proofs.Building.{targeted_at-none}
use Rattle.lower.proofs.block.aim.Goals as goal

pub returns-in_default : goal.returns-in_default
returns-in_default c = rw c.in_default.is (sym (targeted_at-none c.args.blocks.now))
