use Rattle.lower.proofs.Building.{still_some}
use Rattle.lower.proofs.block.end_block.Goals as goal

pub aim-requires-clause-some : goal.aim-requires-clause-some
aim-requires-clause-some c = still_some _ _ _ c.in_ok-push_if.ensures c.requires.some
