-- Commands that run a program, without a fault and without a failed call.
use Rattle.std.specs.Prelude.{nat_lt}
use Rattle.std.proofs.lemmas.Bool.{ltb-false}
use Rattle.std.proofs.Common.{◌≡◌, ◌≤◌, ◌⊎◌, ℕ, ◌^◌, Bool, true, false, List, length, Option, Some, None, Result, Ok, refl, sym, ap, ◌∙◌, subst, inl, inr}
use Rattle.outside.specs.Outside.{Files, Rose}
use Rattle.elf_objects.specs.declared.fault.Fault.{Fault}
use Rattle.runs.specs.Runs.{MeteredRun}
use Rattle.machine_state.specs.Ends.{Event, End}
use Rattle.blob_codec.specs.Grammar.{Container, container_bytes}
use Rattle.blob_codec.specs.declared.fault.BlobFault.{BlobFault}
use Rattle.blob_codec.specs.Reading.{container_of}
use Rattle.transcript.specs.Hosts.{Reply, answering, start_host}
use Rattle.transcript.specs.Grammar.{replies_of}
use Rattle.link_core.specs.Faults.{input_of, HasFirstFault, FirstFaultIsOne}
use Rattle.link_core.specs.Laws.{LinkedIsOne}
use Rattle.link_core.specs.Linked.{Linked, IsLinked}
use Rattle.link_core.specs.Runs.{machine_run}
use Rattle.polkatool_cmd.specs.Answers.{HoldsRun, HasRunFault, HasRun, FailedReplies, FailedTranscript, RunResultsIn, HoldsExec, HasRepliesFault, HasLinkFault, HasStartFault, FailedExecReplies, ExecResultsIn, Reports}
use Rattle.polkatool_cmd.specs.Complete.{AreFilesKnown, NoneFailed, CanRun, CanExec}
use Rattle.polkatool_cmd.specs.ExecWords.{ExecCommand}
use Rattle.polkatool_cmd.specs.Faults.{first_too_large}
use Rattle.polkatool_cmd.specs.LinkAnswers.{HasObjects, HasLargeFile, FailedObject, LinksFiles}
use Rattle.polkatool_cmd.specs.RunFaults.{first_run_fault, first_start_fault, replies_fault}
use Rattle.polkatool_cmd.specs.RunWords.{RunCommand}
use Rattle.polkatool_cmd.specs.Running.{HoldsReplies}
use Rattle.polkatool_cmd.specs.Snapshot.{Snapshot, Stream, FailedRead}
use Rattle.polkatool_cmd.specs.Statuses.{status_of}
use Rattle.polkatool_cmd.specs.declared.answer.Answer.{Answer}
use Rattle.polkatool_cmd.specs.declared.answer.Answer.TheVariants as answers
use Rattle.polkatool_cmd.specs.declared.status.Status.{Status}
use Rattle.polkatool_cmd.specs.declared.status.Status.TheVariants as statuses
use Rattle.polkatool_cmd.proofs.Completing.{holds_one, not_unread, same_files, none_large, next_held, memory_status}

-- the file of replies is one
replies_one : (seen : Option Files) (name : Option (List ℕ)) (f g : List ℕ) → AreFilesKnown seen → HoldsReplies seen name f → HoldsReplies seen name g → f ≡ g
replies_one seen None f g known a b = a ∙ sym b
replies_one seen (Some name) f g known a b = holds_one seen name f g known a b

-- the read of a file of replies that is there didn't fail
not_unread_replies : (replies : Option (List ℕ)) (name f : List ℕ) (old new : Snapshot) → HoldsReplies old.files replies f → replies ≡ Some name → ¬ Rose old.reads new.reads → FailedRead name old new → ⊥
not_unread_replies replies name f old new held is none failed = not_unread name f old new (subst (λ o. HoldsReplies old.files o f) is held) none failed

no_fault_is : (x : Option Fault) (fault : Fault) → x ≡ None → x ≡ Some fault → ⊥
no_fault_is x fault none some = let no : ◌≡◌ {A = Option Fault} (Some fault) None = sym some ∙ none in cc

-- a blob without a fault isn't too large
blob_fits : (entry : ℕ) (argument blob file : List ℕ) → first_run_fault entry argument blob file ≡ None → length blob ≤ 2 ^ 27
blob_fits entry argument blob file none = by_test (nat_lt (2 ^ 27) (length blob)) refl
  where
    by_test : (b : Bool) → nat_lt (2 ^ 27) (length blob) ≡ b → length blob ≤ 2 ^ 27
    by_test false is = ltb-false (2 ^ 27) (length blob) is
    by_test true is = let no = rw is at none in absurd cc

-- a run of files is one
run_one : (seen : Option Files) (asked : RunCommand) (r s : MeteredRun Event End) → AreFilesKnown seen → HoldsRun seen asked r → HoldsRun seen asked s → r ≡ s
run_one seen asked r s known a b =
    let blob : a.blob ≡ b.blob = holds_one seen asked.blob a.blob b.blob known a.blob_held b.blob_held in
    let file : a.file ≡ b.file = replies_one seen asked.settings.replies a.file b.file known a.file_held b.file_held in
    let container : ◌≡◌ {A = Result Container BlobFault} (Ok a.container) (Ok b.container) = sym a.is_container ∙ ap container_of blob ∙ b.is_container in
    let replies : ◌≡◌ {A = Result (List Reply) ℕ} (Ok a.replies) (Ok b.replies) = sym a.are_replies ∙ ap replies_of file ∙ b.are_replies in
    let same_container : a.container ≡ b.container = cc in
    let same_replies : a.replies ≡ b.replies = cc in
    a.run_is
    ∙ ap (λ c. machine_run answering (start_host a.replies) c asked.settings.entry asked.settings.argument asked.settings.gas) same_container
    ∙ ap (λ l. machine_run answering (start_host l) b.container asked.settings.entry asked.settings.argument asked.settings.gas) same_replies
    ∙ sym b.run_is

-- a run that was told has the status of the run that is meant
seen_status :
    (IsAsked : MeteredRun Event End → Type 0) (run : MeteredRun Event End) (wanted status s : Status) (old new : Snapshot) → ((other : MeteredRun Event End) → IsAsked other → other ≡ run)
    → wanted ≡ status_of run.end → HasRun IsAsked s old new → status ≡ s → (status ≡ wanted) ⊎ (status ≡ statuses.Memory)
seen_status IsAsked run wanted status s old new one is seen reports = inl (reports ∙ sym seen.ended ∙ ap (λ (r : MeteredRun Event End). status_of r.end) (one seen.run seen.is_run) ∙ sym is)

pub run_complete :
    (asked : RunCommand) (wanted status : Status) (answer : Answer) (old new : Snapshot) (err err' : Stream) → AreFilesKnown old.files → CanRun old.files asked wanted
    → NoneFailed old new err err' → RunResultsIn asked answer old new → Reports answer status err err' → (status ≡ wanted) ⊎ (status ≡ statuses.Memory)
run_complete asked wanted status answer old new err err' known can none results reports = by_answer answer results reports
  where
    h : HoldsRun old.files asked can.run
    h = can.holds

    one : (other : MeteredRun Event End) → HoldsRun old.files asked other → other ≡ can.run
    one other o = run_one old.files asked other can.run known o h

    seen : (s : Status) → HasRun (HoldsRun old.files asked) s old new → status ≡ s → (status ≡ wanted) ⊎ (status ≡ statuses.Memory)
    seen s has is = seen_status (HoldsRun old.files asked) can.run wanted status s old new one can.status_is has is

    refused_with : (fault : Fault) (blob file : List ℕ) → blob ≡ h.blob → file ≡ h.file → first_run_fault asked.settings.entry asked.settings.argument blob file ≡ Some fault → ⊥
    refused_with fault blob file same_blob same_file first =
        no_fault_is (first_run_fault asked.settings.entry asked.settings.argument blob file) fault
        (ap (λ b. first_run_fault asked.settings.entry asked.settings.argument b file) same_blob ∙ ap (λ f. first_run_fault asked.settings.entry asked.settings.argument h.blob f) same_file ∙ h.no_fault) first

    failed : FailedRead asked.blob old new ⊎ (FailedReplies asked old new ⊎ FailedTranscript (HoldsRun old.files asked) old new) → ⊥
    failed (inl f) = not_unread asked.blob h.blob old new h.blob_held none.reads f
    failed (inr (inl f)) = not_unread_replies asked.settings.replies f.name h.file old new h.file_held f.is_name none.reads f.failed
    failed (inr (inr f)) = none.puts f.cause

    refused : (fault : Fault) → HasRunFault old.files asked fault → ⊥
    refused fault r =
        let blob : r.blob ≡ h.blob = holds_one old.files asked.blob r.blob h.blob known r.blob_held h.blob_held in
        let small : length h.blob ≤ 2 ^ 27 = blob_fits asked.settings.entry asked.settings.argument h.blob h.file h.no_fault in
        let file : r.file ≡ h.file =
        replies_one old.files asked.settings.replies r.file h.file known (r.file_held (subst (λ b. length b ≤ 2 ^ 27) (sym blob) small)) h.file_held in
        refused_with fault r.blob r.file blob file r.first

    by_answer : (answer : Answer) → RunResultsIn asked answer old new → Reports answer status err err' → (status ≡ wanted) ⊎ (status ≡ statuses.Memory)
    by_answer answers.Done results reports = seen statuses.Done results reports.0
    by_answer answers.Panicked results reports = seen statuses.Panicked results reports.0
    by_answer answers.Faulted results reports = seen statuses.Faulted results reports.0
    by_answer answers.OutOfGas results reports = seen statuses.OutOfGas results reports.0
    by_answer answers.Unanswered results reports = seen statuses.Unanswered results reports.0
    by_answer answers.BadReply results reports = seen statuses.BadReply results reports.0
    by_answer (answers.Refused fault) results reports = absurd (refused fault results.0)
    by_answer answers.Usage results reports = absurd results
    by_answer answers.FileFault results reports = absurd (failed results)
    by_answer answers.Memory results reports = memory_status status wanted err err' none.err_puts reports

-- an exec of files is one
exec_one : LinkedIsOne → (seen : Option Files) (asked : ExecCommand) (r s : MeteredRun Event End) → AreFilesKnown seen → HoldsExec seen asked r → HoldsExec seen asked s → r ≡ s
exec_one law seen asked r s known a b =
    let file : a.file ≡ b.file = replies_one seen asked.settings.replies a.file b.file known a.file_held b.file_held in
    let files : a.links.files ≡ b.links.files =
    same_files seen asked.input.objects a.links.files b.links.files known a.links.objects.held b.links.objects.held a.links.objects.all b.links.objects.all in
    let replies : ◌≡◌ {A = Result (List Reply) ℕ} (Ok a.replies) (Ok b.replies) = sym a.are_replies ∙ ap replies_of file ∙ b.are_replies in
    let same_replies : a.replies ≡ b.replies = cc in
    let container : a.links.holds.container ≡ b.links.holds.container =
    law (input_of b.links.files asked.input.wanted) a.links.holds.container b.links.holds.container
    (subst (λ f. IsLinked (input_of f asked.input.wanted) a.links.holds.container) files a.links.holds.is_linked) b.links.holds.is_linked in
    a.run_is
    ∙ ap (λ c. machine_run answering (start_host a.replies) c asked.settings.entry asked.settings.argument asked.settings.gas) container
    ∙ ap (λ l. machine_run answering (start_host l) b.links.holds.container asked.settings.entry asked.settings.argument asked.settings.gas) same_replies
    ∙ sym b.run_is

pub exec_complete :
    FirstFaultIsOne → LinkedIsOne → (asked : ExecCommand) (wanted status : Status) (answer : Answer) (old new : Snapshot) (err err' : Stream) → AreFilesKnown old.files → CanExec old.files asked wanted
    → NoneFailed old new err err' → ExecResultsIn asked answer old new → Reports answer status err err' → (status ≡ wanted) ⊎ (status ≡ statuses.Memory)
exec_complete first_law law asked wanted status answer old new err err' known can none results reports = by_answer answer results reports
  where
    h : HoldsExec old.files asked can.run
    h = can.holds

    objects : HasObjects old.files asked.input h.links.files
    objects = h.links.objects

    one : (other : MeteredRun Event End) → HoldsExec old.files asked other → other ≡ can.run
    one other o = exec_one law old.files asked other can.run known o h

    seen : (s : Status) → HasRun (HoldsExec old.files asked) s old new → status ≡ s → (status ≡ wanted) ⊎ (status ≡ statuses.Memory)
    seen s has is = seen_status (HoldsExec old.files asked) can.run wanted status s old new one can.status_is has is

    same : (files : List (List ℕ)) → HasObjects old.files asked.input files → files ≡ h.links.files
    same files o = same_files old.files asked.input.objects files h.links.files known o.held objects.held o.all objects.all

    same_container : (linked : Linked) (links : LinksFiles old.files asked.input linked) → linked.container ≡ h.linked.container
    same_container linked links =
        let c : links.holds.container ≡ h.links.holds.container =
        law (input_of h.links.files asked.input.wanted) links.holds.container h.links.holds.container
        (subst (λ f. IsLinked (input_of f asked.input.wanted) links.holds.container) (same links.files links.objects) links.holds.is_linked) h.links.holds.is_linked in
        links.holds.spelled ∙ ap container_bytes c ∙ sym h.links.holds.spelled

    refused : (fault : Fault) → HasLargeFile old.files asked.input fault ⊎ (HasRepliesFault old.files asked fault ⊎ (HasLinkFault old.files asked fault ⊎ HasStartFault old.files asked fault)) → ⊥
    refused fault (inl l) =
        no_fault_is (first_too_large l.files) fault (none_large old.files 0 (2 ^ 26) asked.input.objects l.files h.links.files known l.held objects.held objects.all objects.fit) l.first
    refused fault (inr (inl r)) =
        let file : r.file ≡ h.file = replies_one old.files asked.settings.replies r.file h.file known r.file_held h.file_held in
        no_fault_is (replies_fault (length asked.input.objects) r.file) fault (ap (replies_fault (length asked.input.objects)) file ∙ h.no_replies_fault) r.first
    refused fault (inr (inr (inl l))) =
        first_law.none h.links.files asked.input.wanted fault h.links.no_fault
        (subst (λ f. HasFirstFault f asked.input.wanted fault) (same l.object_fault.files l.object_fault.objects) l.object_fault.first)
    refused fault (inr (inr (inr s))) =
        no_fault_is (first_start_fault asked.settings.entry asked.settings.argument s.linked.container) fault
        (ap (first_start_fault asked.settings.entry asked.settings.argument) (same_container s.linked s.links) ∙ h.no_start_fault) s.first

    unread : FailedObject asked.input old new → ⊥
    unread f =
        let there = next_held old.files asked.input.objects h.links.files (length f.files) f.name objects.held objects.all f.next in
        not_unread f.name there.0 old new there.1 none.reads f.failed

    failed : FailedObject asked.input old new ⊎ (FailedExecReplies asked old new ⊎ FailedTranscript (HoldsExec old.files asked) old new) → ⊥
    failed (inl f) = unread f
    failed (inr (inl f)) = not_unread_replies asked.settings.replies f.name h.file old new h.file_held f.is_name none.reads f.failed
    failed (inr (inr f)) = none.puts f.cause

    by_answer : (answer : Answer) → ExecResultsIn asked answer old new → Reports answer status err err' → (status ≡ wanted) ⊎ (status ≡ statuses.Memory)
    by_answer answers.Done results reports = seen statuses.Done results reports.0
    by_answer answers.Panicked results reports = seen statuses.Panicked results reports.0
    by_answer answers.Faulted results reports = seen statuses.Faulted results reports.0
    by_answer answers.OutOfGas results reports = seen statuses.OutOfGas results reports.0
    by_answer answers.Unanswered results reports = seen statuses.Unanswered results reports.0
    by_answer answers.BadReply results reports = seen statuses.BadReply results reports.0
    by_answer (answers.Refused fault) results reports = absurd (refused fault results.0)
    by_answer answers.Usage results reports = absurd results
    by_answer answers.FileFault results reports = absurd (failed results)
    by_answer answers.Memory results reports = memory_status status wanted err err' none.err_puts reports
