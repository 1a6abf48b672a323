use Rattle.transcript.proofs.Looping.{SoFar}
use Rattle.transcript.proofs.writing_runs.run_out.Given as goal

abbrev pub invariant-loop-nest : goal.invariant-loop-nest
invariant-loop-nest g l =
    SoFar l.replies l.fn.machine (record { text = g.S.Sink.bytes l.fn.out; puts = g.S.Sink.faults l.fn.out }) l.given l.nest l.machine (record { text = g.S.Sink.bytes l.out; puts = g.S.Sink.faults l.out })

abbrev pub decreases-loop-nest : goal.decreases-loop-nest
decreases-loop-nest g l = l.machine.gas
