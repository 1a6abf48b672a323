use Rattle.std.proofs.Common.{rules, ◌≤◌, ◌^◌, length, None, sym, ap, subst, arith}
use Rattle.pvm_machine.specs.Ran.{run_with}
use Rattle.transcript.specs.Hosts.{answering, start_host}
use Rattle.polkatool_cmd.specs.Answers.{HoldsRun}
use Rattle.polkatool_cmd.specs.RunRead.{run_in}
use Rattle.polkatool_cmd.specs.Running.{HoldsReplies}
use Rattle.polkatool_cmd.specs.Snapshot.{Holds}
use Rattle.polkatool_cmd.proofs.Answering.{RunResultsIn-seen}
use Rattle.polkatool_cmd.proofs.Blobs.{RunResultsIn-unread, RunResultsIn-no_replies}
use Rattle.polkatool_cmd.proofs.RunFaults.{run_fault-start}
use Rattle.polkatool_cmd.proofs.run.run.Goals as goal

pub returns-in-Err-clause-results : goal.returns-in-Err-clause-results
returns-in-Err-clause-results g c = RunResultsIn-unread (run_in c.args.command.now) _ _ _ c.in-Err.ensures.read (search rules)

pub returns-in-Err-read_replies-clause-results : goal.returns-in-Err-read_replies-clause-results
returns-in-Err-read_replies-clause-results g c =
    RunResultsIn-no_replies (run_in c.args.command.now) _ _ _ c.in-Ok.file c.in-Ok.ensures.read
    (rw (c.in-Ok.ensures.files, c.in-Ok.ensures.reads) at c.in-Err-read_replies.ensures.read) (search rules)

pub returns-in-Ok-start-clause-results : goal.returns-in-Ok-start-clause-results
returns-in-Ok-start-clause-results g c =
    let asked = run_in c.args.command.now in
    let files = g.F.Folder.files c.args.files.now in
    let starts = c.in-Ok-start.ensures in
    let blob = c.as_slice-2.result.now in
    let file = c.as_slice.result.now in
    let replies = c.in-Ok-read.replies in
    let fits : length blob ≤ 2 ^ 27 = omega (arith, ap length c.as_slice-2.ensures, c.in-Ok.ensures.read.len) in
    let short : length file ≤ 2 ^ 20 = omega (arith, ap length c.as_slice.ensures, c.in-Ok-read_replies.ensures.read.len) in
    let holds : HoldsRun files asked (run_with answering (start_host replies) c.in-Ok-start.machine) = record {
      blob = blob;
      blob_held = subst (Holds files asked.blob) (sym c.as_slice-2.ensures) c.in-Ok.ensures.read.held;
      file = file;
      file_held = subst (HoldsReplies files asked.settings.replies) (sym c.as_slice.ensures) (rw c.in-Ok.ensures.files at c.in-Ok-read_replies.ensures.read.held);
      no_fault = run_fault-start asked.settings.entry asked.settings.argument blob file fits short replies None c.in-Ok-read.ensures.read starts.no_fault;
      container = starts.container;
      is_container = starts.is_container;
      replies = replies;
      are_replies = c.in-Ok-read.ensures.read;
      run_is = ap (run_with answering (start_host replies)) starts.machine_is;
    } in
    RunResultsIn-seen asked _ c.finish.new.machine _ _ _ holds c.finish.ensures (search rules)
