use Rattle.pvm_machine.specs.Ran.{run_with}
use Rattle.transcript.specs.Hosts.{answering, start_host}
use Rattle.polkatool_cmd.proofs.Answering.{WritesRun-end}
use Rattle.polkatool_cmd.proofs.run.finish.Goals as goal

pub returns-in-Ok : goal.returns-in-Ok
returns-in-Ok g c =
    WritesRun-end (run_with answering (start_host c.args.replies.now) c.args.machine.now) c.write_run.new.machine c.in-Ok.end c.answer_of.result _ _ c.in-Ok.ensures c.answer_of.ensures
