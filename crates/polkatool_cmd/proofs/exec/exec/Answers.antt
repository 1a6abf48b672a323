use Rattle.std.proofs.Common.{rules, ◌≤◌, ◌^◌, length, sym, ap, ◌∙◌, subst, inr, arith}
use Rattle.pvm_machine.specs.Ran.{run_with}
use Rattle.transcript.specs.Hosts.{answering, start_host}
use Rattle.link_core.specs.Runs.{machine_run}
use Rattle.polkatool_cmd.specs.Answers.{HoldsExec, HasStartFault}
use Rattle.polkatool_cmd.specs.ExecRead.{exec_in}
use Rattle.polkatool_cmd.specs.Running.{HoldsReplies}
use Rattle.polkatool_cmd.proofs.Execing.{ExecResultsIn-no_replies, replies_fault-none, one_container, argument_fits}
use Rattle.polkatool_cmd.proofs.Answering.{ExecResultsIn-seen}
use Rattle.polkatool_cmd.proofs.exec.exec.Goals as goal

pub returns-in-Err-read_replies-clause-results : goal.returns-in-Err-read_replies-clause-results
returns-in-Err-read_replies-clause-results g c =
    ExecResultsIn-no_replies (exec_in c.args.command.now) _ _ _ c.in-Ok.bundle c.len.result c.in-Ok.ensures.read c.len.ensures.count
    (rw (c.in-Ok.ensures.files, c.in-Ok.ensures.reads) at c.in-Err-read_replies.ensures.read) (search rules)

pub returns-in-Err-Bad-start-clause-results : goal.returns-in-Err-Bad-start-clause-results
returns-in-Err-Bad-start-clause-results g c =
    let asked = exec_in c.args.command.now in
    let files = g.F.Folder.files c.args.files.now in
    let file = c.as_slice.result.now in
    let short : length file ≤ 2 ^ 20 = omega (arith, ap length c.as_slice.ensures, c.in-Ok-read_replies.ensures.read.len) in
    let holds : HasStartFault files asked c.in-Err-Bad-start.fault = record {
      linked = c.in-Ok-link_bundle.linked;
      links = record { files = c.in-Ok.bundle; objects = c.in-Ok.ensures.read; no_fault = c.in-Ok-link_bundle.ensures.0; holds = c.in-Ok-link_bundle.ensures.1 };
      file = file;
      file_held = subst (HoldsReplies files asked.settings.replies) (sym c.as_slice.ensures) (rw c.in-Ok.ensures.files at c.in-Ok-read_replies.ensures.read.held);
      no_fault = replies_fault-none (length asked.input.objects) file c.in-Ok-read.replies short c.in-Ok-read.ensures.read;
      first = rw (sym c.container.ensures) (rw c.in-Err-Bad-start.field-0-is at c.in-Err-Bad-start.ensures);
    } in
    (inr (inr (inr (rw c.in-Err-Bad-start.field-0-is holds))), search rules)

pub returns-in-Ok-start-clause-results : goal.returns-in-Ok-start-clause-results
returns-in-Ok-start-clause-results g c =
    let asked = exec_in c.args.command.now in
    let files = g.F.Folder.files c.args.files.now in
    let starts = c.in-Ok-start.ensures in
    let file = c.as_slice.result.now in
    let replies = c.in-Ok-read.replies in
    let linked = c.in-Ok-link_bundle.ensures.1 in
    let short : length file ≤ 2 ^ 20 = omega (arith, ap length c.as_slice.ensures, c.in-Ok-read_replies.ensures.read.len) in
    let holds : HoldsExec files asked (run_with answering (start_host replies) c.in-Ok-start.machine) = record {
      linked = c.in-Ok-link_bundle.linked;
      links = record { files = c.in-Ok.bundle; objects = c.in-Ok.ensures.read; no_fault = c.in-Ok-link_bundle.ensures.0; holds = linked };
      file = file;
      file_held = subst (HoldsReplies files asked.settings.replies) (sym c.as_slice.ensures) (rw c.in-Ok.ensures.files at c.in-Ok-read_replies.ensures.read.held);
      no_replies_fault = replies_fault-none (length asked.input.objects) file replies short c.in-Ok-read.ensures.read;
      replies = replies;
      are_replies = c.in-Ok-read.ensures.read;
      no_start_fault = rw (sym c.container.ensures) starts.no_fault;
      run_is =
          ap (run_with answering (start_host replies)) starts.machine_is
          ∙ ap (λ k. machine_run answering (start_host replies) k asked.settings.entry asked.settings.argument asked.settings.gas)
          (one_container c.container.result.now c.in-Ok-link_bundle.linked.container starts.container linked.container c.container.ensures linked.spelled linked.is_linked.fits starts.is_container);
      agrees = λ within.
          linked.agrees asked.settings.entry asked.settings.argument replies within
          (argument_fits asked.settings.entry asked.settings.argument _ starts.container starts.no_fault starts.is_container) c.in-Ok-read.ensures.words;
    } in
    ExecResultsIn-seen asked _ c.finish.new.machine _ _ _ holds c.finish.ensures (search rules)
