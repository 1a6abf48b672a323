use Rattle.lift_blocks.proofs.Calls.{calls_begin_blocks}
use Rattle.lift_blocks.proofs.calls_begin_blocks.Goals as goal

pub returns : goal.returns
returns c = calls_begin_blocks
