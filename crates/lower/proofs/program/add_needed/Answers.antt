use Rattle.std.proofs.Common.{arith}
use Rattle.lower.proofs.Building.{needed_is_added}
use Rattle.lower.proofs.program.add_needed.Goals as goal

pub loop-at-preserved : goal.loop-at-preserved
loop-at-preserved c =
    needed_is_added c.args.lifted.now.begins c.args.lifted.now.needed c.loop-at.at c.needed.result _ c.args.list.now c.loop-at.list c.add_needed.new.self
    (omega arith) c.needed.ensures.value (c.requires.each c.needed.result c.needed.ensures.within) c.loop-at.invariant c.in_ok-add_needed.ensures.ok
