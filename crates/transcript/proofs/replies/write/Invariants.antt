use Rattle.transcript.proofs.Writing.{Writing}
use Rattle.transcript.proofs.replies.write.Given as goal

abbrev pub invariant-loop-at : goal.invariant-loop-at
invariant-loop-at l = Writing l.pieces l.fn.memory l.at l.memory
