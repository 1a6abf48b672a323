use Rattle.std.proofs.Common.{◌≡◌, refl, arith, inl, inr}
use Rattle.std.proofs.lemmas.Result.{err_from_is_err_and}
use Rattle.pvm_machine.specs.declared.answers.Exit.TheVariants as exit
use Rattle.pvm_machine.proofs.Hosted.{ran_with}
use Rattle.transcript.specs.Hosts.{answering, left_of}
use Rattle.transcript.specs.declared.run_end.RunEnd.TheVariants as run_end
use Rattle.transcript.specs.declared.writing_runs.WriteRunFault.TheVariants as fault
use Rattle.transcript.proofs.Looping.{begins, runs_out, stops, not_seen, ends_by, goes_on, call_fails, smaller}
use Rattle.transcript.proofs.writing_runs.run_out.Goals as goal

pub loop-nest-init : goal.loop-nest-init
loop-nest-init g c = begins _ _ _ _ c.new-nest.ensures

pub returns-in-Halt : goal.returns-in-Halt
returns-in-Halt g c =
    runs_out _ _ _ _ _ _ _ c.loop-nest.invariant c.run.new.self run_end.Halt
    (ran_with answering (left_of c.args.replies.now c.loop-nest.given c.loop-nest.nest) c.loop-nest.machine c.run.new.self exit.Halt c.in-Halt.ensures.steps) tt

pub returns-in-Panic : goal.returns-in-Panic
returns-in-Panic g c =
    runs_out _ _ _ _ _ _ _ c.loop-nest.invariant c.run.new.self run_end.Panic
    (ran_with answering (left_of c.args.replies.now c.loop-nest.given c.loop-nest.nest) c.loop-nest.machine c.run.new.self exit.Panic c.in-Panic.ensures.steps) tt

pub returns-in-Fault : goal.returns-in-Fault
returns-in-Fault g c =
    runs_out _ _ _ _ _ _ _ c.loop-nest.invariant c.run.new.self (run_end.Fault c.in-Fault.address)
    (ran_with answering (left_of c.args.replies.now c.loop-nest.given c.loop-nest.nest) c.loop-nest.machine c.run.new.self (exit.Fault c.in-Fault.address) c.in-Fault.ensures.steps) tt

pub returns-in-OutOfGas : goal.returns-in-OutOfGas
returns-in-OutOfGas g c =
    runs_out _ _ _ _ _ _ _ c.loop-nest.invariant c.run.new.self run_end.OutOfGas
    (ran_with answering (left_of c.args.replies.now c.loop-nest.given c.loop-nest.nest) c.loop-nest.machine c.run.new.self exit.OutOfGas c.in-OutOfGas.ensures.steps) tt

pub returns-in-Memory : goal.returns-in-Memory
returns-in-Memory g c =
    inl (stops _ _ _ _ _ _ _ c.loop-nest.invariant c.run.new.self
    (ran_with answering (left_of c.args.replies.now c.loop-nest.given c.loop-nest.nest) c.loop-nest.machine c.run.new.self exit.Memory c.in-Memory.ensures.steps) c.in-Memory.ensures.steps.1)

pub returns-in_err-event_line-in-Host : goal.returns-in_err-event_line-in-Host
returns-in_err-event_line-in-Host g c =
    let p = err_from_is_err_and c.from_residual.result c.from_residual.ensures.1 in
    let failed : p.0 ≡ fault.Failed = p.2 in
    rw (p.1, failed)
    (not_seen _ _ _ _ _ _ _ c.loop-nest.invariant c.run.new.self c.in-Host.number c.in-Host.ensures.steps c.in-Host.ensures.keeps _
    c.in_err-event_line-in-Host.ensures.err c.in_err-event_line-in-Host.ensures.cause.failed)

pub returns-in_err-now-in-Host : goal.returns-in_err-now-in-Host
returns-in_err-now-in-Host g c =
    let p = err_from_is_err_and c.from_residual-in_err-now-in-Host.result c.from_residual-in_err-now-in-Host.ensures.1 in
    let same : p.0 ≡ c.in_err-now-in-Host.field-0.0 = p.2 in
    rw (p.1, same)
    (call_fails _ _ _ _ _ _ _ c.loop-nest.invariant c.run.new.self c.in-Host.number c.in-Host.ensures.steps c.in-Host.ensures.keeps _
    c.in_ok-event_line-in-Host.ensures.ok c.in_ok-event_line-in-Host.ensures.cause.kept c.answer.new.machine c.answer.new.nest c.in_err-now-in-Host.field-0.0 c.in_err-now-in-Host.ensures)

pub loop-nest-preserved : goal.loop-nest-preserved
loop-nest-preserved g c =
    let by = rw c.in-GoesOn.is at c.in_ok-now-in-Host.ensures in
    goes_on _ _ _ _ _ _ _ c.loop-nest.invariant c.run.new.self c.in-Host.number c.in-Host.ensures.steps c.in-Host.ensures.keeps _
    c.in_ok-event_line-in-Host.ensures.ok c.in_ok-event_line-in-Host.ensures.cause.kept c.answer.new.machine c.in-GoesOn.now c.answer.new.nest by.0 by.1

pub loop-nest-smaller : goal.loop-nest-smaller
loop-nest-smaller g c =
    let by = rw c.in-GoesOn.is at c.in_ok-now-in-Host.ensures in
    smaller c.loop-nest.machine c.run.new.self c.answer.new.machine c.in-Host.number _ _ c.in-Host.ensures.steps by.0

pub returns-in-Ends : goal.returns-in-Ends
returns-in-Ends g c =
    ends_by _ _ _ _ _ _ _ c.loop-nest.invariant c.run.new.self c.in-Host.number c.in-Host.ensures.steps c.in-Host.ensures.keeps _
    c.in_ok-event_line-in-Host.ensures.ok c.in_ok-event_line-in-Host.ensures.cause.kept c.answer.new.machine c.in-Ends.end (rw c.in-Ends.is at c.in_ok-now-in-Host.ensures)
