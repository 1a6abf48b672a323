use Rattle.lower.proofs.Building.{still_some, three_are_added}
use Rattle.lower.proofs.block.push_all.Goals as goal

pub push_if-requires-2 : goal.push_if-requires-2
push_if-requires-2 c = still_some _ _ _ c.in_ok-push_if.ensures c.requires

pub push_if-requires-3 : goal.push_if-requires-3
push_if-requires-3 c = still_some _ _ _ c.in_ok-push_if-2.ensures (still_some _ _ _ c.in_ok-push_if.ensures c.requires)

pub returns : goal.returns
returns c = three_are_added c.args.three.now c.args.blocks.now c.push_if.new.blocks c.push_if-2.new.blocks c.push_if-3.new.blocks c.in_ok-push_if.ensures c.in_ok-push_if-2.ensures c.in_ok-push_if-3.ensures
