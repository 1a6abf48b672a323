use Rattle.std.proofs.Common.{arith}
use Rattle.transcript.proofs.Writing.{read_at, writing_on}
use Rattle.transcript.proofs.replies.write.Goals as goal

pub loop-at-preserved : goal.loop-at-preserved
loop-at-preserved c =
    writing_on c.args.pieces.now c.args.memory.now c.loop-at.at c.loop-at.memory c.loop-at.invariant c.index-pieces-at.result c.write.new.memory
    (read_at c.args.pieces.now c.loop-at.at c.index-pieces-at.result (omega arith) c.index-pieces-at.is) c.write.ensures
