-- The result of each command, and how it is reported.
use Rattle.std.specs.Prelude.{◌≡◌, ◌<◌, ◌≤◌, ◌^◌, ◌⊎◌, ℕ, List, length, Option, Some, None, Ok}
use Rattle.std.specs.Io.KnownBytes.{Appends}
use Rattle.outside.specs.Outside.{Files, Rose, AppendsPrefix, KeepsOthers}
use Rattle.elf_objects.specs.declared.fault.Fault.{Fault}
use Rattle.runs.specs.Runs.{MeteredRun}
use Rattle.runs.specs.Agree.{Agree}
use Rattle.machine_state.specs.Ends.{Event, End}
use Rattle.blob_codec.specs.Grammar.{Container}
use Rattle.blob_codec.specs.Reading.{container_of}
use Rattle.disasm.specs.Disassembly.{disassembly}
use Rattle.pvm_machine.specs.Machine.{Machine}
use Rattle.transcript.specs.Grammar.{replies_of}
use Rattle.transcript.specs.Hosts.{Reply, answering, start_host}
use Rattle.transcript.specs.Lines.{transcript}
use Rattle.transcript.specs.WritingRuns.{LacksMemory}
use Rattle.link_core.specs.Faults.{input_of}
use Rattle.link_core.specs.Runs.{source_run, machine_run}
use Rattle.link_core.specs.Linked.{Linked}
use Rattle.polkatool_cmd.specs.Commands.{Command, Link, Run, Exec, Check, Disassemble, Generate}
use Rattle.polkatool_cmd.specs.RunWords.{RunCommand}
use Rattle.polkatool_cmd.specs.ExecWords.{ExecCommand}
use Rattle.polkatool_cmd.specs.Snapshot.{Snapshot, Stream, Holds, HasFault, FailedRead}
use Rattle.polkatool_cmd.specs.LinkAnswers.{HasObjects, LinksFiles, HasLargeFile, HasObjectFault, FailedObject, LinkResultsIn}
use Rattle.polkatool_cmd.specs.GenerateAnswers.{GenerateResultsIn}
use Rattle.polkatool_cmd.specs.BlobFaults.{first_disassemble_fault}
use Rattle.polkatool_cmd.specs.RunFaults.{first_run_fault, first_start_fault, replies_fault}
use Rattle.polkatool_cmd.specs.CheckFaults.{first_check_fault}
use Rattle.polkatool_cmd.specs.Running.{HoldsReplies}
use Rattle.polkatool_cmd.specs.Statuses.{status_of}
use Rattle.polkatool_cmd.specs.Lines.{ok_text, usage_line, file_fault_line, memory_line, refused_line}
use Rattle.polkatool_cmd.specs.declared.answer.Answer.{Answer}
use Rattle.polkatool_cmd.specs.declared.answer.Answer.TheVariants as answers
use Rattle.polkatool_cmd.specs.declared.status.Status.{Status}
use Rattle.polkatool_cmd.specs.declared.status.Status.TheVariants as statuses

-- the name holds a container, in whose file there is no such fault
pub record HoldsContainer (first_of : List ℕ → Option Fault) (files : Option Files) (blob : List ℕ)
    (container : Container) : Type 0 where
  pub file : List ℕ
  pub held : Holds files blob file
  pub no_fault : first_of file ≡ None
  pub is_container : container_of file ≡ Ok container

-- The files of a run hold a container without a fault at the entry and with the argument, and replies, and this is the
-- container's run from there, with this argument, these replies and this gas.
pub record HoldsRun (files : Option Files) (asked : RunCommand) (run : MeteredRun Event End) : Type 0 where
  pub blob : List ℕ
  pub blob_held : Holds files asked.blob blob
  pub file : List ℕ
  pub file_held : HoldsReplies files asked.settings.replies file
  pub no_fault : first_run_fault asked.settings.entry asked.settings.argument blob file ≡ None
  pub container : Container
  pub is_container : container_of blob ≡ Ok container
  pub replies : List Reply
  pub are_replies : replies_of file ≡ Ok replies
  pub run_is : run ≡ machine_run answering (start_host replies) container asked.settings.entry asked.settings.argument asked.settings.gas

-- The files of a run have this first fault. The file of replies is read where the blob's file isn't too large.
pub record HasRunFault (files : Option Files) (asked : RunCommand) (fault : Fault) : Type 0 where
  pub blob : List ℕ
  pub blob_held : Holds files asked.blob blob
  pub file : List ℕ
  pub file_held : length blob ≤ 2 ^ 27 → HoldsReplies files asked.settings.replies file
  pub first : first_run_fault asked.settings.entry asked.settings.argument blob file ≡ Some fault

-- The run that was asked for ended with this status, and its transcript was put; all else is as before.
pub record HasRun (IsAsked : MeteredRun Event End → Type 0) (status : Status) (old new : Snapshot) : Type 0 where
  pub run : MeteredRun Event End
  pub is_run : IsAsked run
  pub ended : status_of run.end ≡ status
  pub seen : Appends old.out new.out (transcript run)
  pub others : new ≡ record old { out = new.out }

-- The blob's file was read and isn't too large, and the file of replies is missing or its read failed; all else is as
-- before.
pub record FailedReplies (asked : RunCommand) (old new : Snapshot) : Type 0 where
  pub blob : List ℕ
  pub blob_held : Holds old.files asked.blob blob
  pub fits : length blob ≤ 2 ^ 27
  pub name : List ℕ
  pub is_name : asked.settings.replies ≡ Some name
  pub failed : FailedRead name old new

-- A put of the run's transcript failed after a prefix of it; all else is as before.
pub record FailedTranscript (IsAsked : MeteredRun Event End → Type 0) (old new : Snapshot) : Type 0 where
  pub run : MeteredRun Event End
  pub is_run : IsAsked run
  pub seen : AppendsPrefix old.out new.out (transcript run)
  pub cause : Rose old.puts new.puts
  pub others : new ≡ record old { out = new.out; puts = new.puts }

-- An allocation failed when the run reached an `sbrk` that would map pages, or a call on inner machines that allocates.
-- The lines of the calls up to there were written, a prefix of the transcript; all else is as before.
pub record StoppedRun (IsAsked : MeteredRun Event End → Type 0) (old new : Snapshot) : Type 0 where
  pub run : MeteredRun Event End
  pub is_run : IsAsked run
  pub machine : Machine
  pub stopped : LacksMemory run machine (record { text = old.out; puts = old.puts }) (record { text = new.out; puts = new.puts })
  pub others : new ≡ record old { out = new.out }

-- The result of a run: it ended, as the answer says, and its transcript is written; or it is refused with the first fault
-- of its files, the entry and the argument; or a read or a write failed; or an allocation failed, before anything was
-- written or at an `sbrk` or a call. After a refusal all is as before.
abbrev pub RunResultsIn : RunCommand → Answer → Snapshot → Snapshot → Type 0
RunResultsIn asked answers.Done old new = HasRun (HoldsRun old.files asked) statuses.Done old new
RunResultsIn asked answers.Panicked old new = HasRun (HoldsRun old.files asked) statuses.Panicked old new
RunResultsIn asked answers.Faulted old new = HasRun (HoldsRun old.files asked) statuses.Faulted old new
RunResultsIn asked answers.OutOfGas old new = HasRun (HoldsRun old.files asked) statuses.OutOfGas old new
RunResultsIn asked answers.Unanswered old new = HasRun (HoldsRun old.files asked) statuses.Unanswered old new
RunResultsIn asked answers.BadReply old new = HasRun (HoldsRun old.files asked) statuses.BadReply old new
RunResultsIn asked (answers.Refused fault) old new = HasRunFault old.files asked fault × (new ≡ old)
RunResultsIn asked answers.Usage old new = ⊥
RunResultsIn asked answers.FileFault old new =
    FailedRead asked.blob old new ⊎ (FailedReplies asked old new ⊎ FailedTranscript (HoldsRun old.files asked) old new)
RunResultsIn asked answers.Memory old new = (new ≡ old) ⊎ StoppedRun (HoldsRun old.files asked) old new

-- The files of an exec's objects are linked, the file of replies has replies, and this is the linked program's run from
-- the entry, with the argument, these replies and this gas. The run agrees with that of the objects, where there is such
-- an entry.
pub record HoldsExec (files : Option Files) (asked : ExecCommand) (run : MeteredRun Event End) : Type 0 where
  pub linked : Linked
  pub links : LinksFiles files asked.input linked
  pub file : List ℕ
  pub file_held : HoldsReplies files asked.settings.replies file
  pub no_replies_fault : replies_fault (length asked.input.objects) file ≡ None
  pub replies : List Reply
  pub are_replies : replies_of file ≡ Ok replies
  pub no_start_fault : first_start_fault asked.settings.entry asked.settings.argument linked.container ≡ None
  pub run_is : run ≡ machine_run answering (start_host replies) links.holds.container asked.settings.entry asked.settings.argument asked.settings.gas
  pub agrees : asked.settings.entry < length asked.input.wanted.entries
      → Agree (source_run answering (start_host replies) (input_of links.files asked.input.wanted) asked.settings.entry asked.settings.argument)
      (machine_run answering (start_host replies) links.holds.container asked.settings.entry asked.settings.argument)

-- The objects' files are read, and the file of replies has this fault.
pub record HasRepliesFault (seen : Option Files) (asked : ExecCommand) (fault : Fault) : Type 0 where
  pub files : List (List ℕ)
  pub objects : HasObjects seen asked.input files
  pub file : List ℕ
  pub file_held : HoldsReplies seen asked.settings.replies file
  pub first : replies_fault (length asked.input.objects) file ≡ Some fault

-- The file of replies has no fault, and this is the first fault of the objects.
pub record HasLinkFault (seen : Option Files) (asked : ExecCommand) (fault : Fault) : Type 0 where
  pub file : List ℕ
  pub file_held : HoldsReplies seen asked.settings.replies file
  pub no_fault : replies_fault (length asked.input.objects) file ≡ None
  pub object_fault : HasObjectFault seen asked.input fault

-- The objects are linked, and the linked program can't be started, with this fault.
pub record HasStartFault (seen : Option Files) (asked : ExecCommand) (fault : Fault) : Type 0 where
  pub linked : Linked
  pub links : LinksFiles seen asked.input linked
  pub file : List ℕ
  pub file_held : HoldsReplies seen asked.settings.replies file
  pub no_fault : replies_fault (length asked.input.objects) file ≡ None
  pub first : first_start_fault asked.settings.entry asked.settings.argument linked.container ≡ Some fault

-- The objects' files were read, and the file of replies is missing or its read failed; all else is as before.
pub record FailedExecReplies (asked : ExecCommand) (old new : Snapshot) : Type 0 where
  pub files : List (List ℕ)
  pub objects : HasObjects old.files asked.input files
  pub name : List ℕ
  pub is_name : asked.settings.replies ≡ Some name
  pub failed : FailedRead name old new

-- The result of an exec: the run ended, as the answer says, and its transcript is written; or it is refused, with the
-- first file that is too large, or else the first fault of the file of replies, of the objects, or of the start; or a read
-- or a write failed; or an allocation failed, before anything was written or at an `sbrk` or a call. After a refusal all is
-- as before.
abbrev pub ExecResultsIn : ExecCommand → Answer → Snapshot → Snapshot → Type 0
ExecResultsIn asked answers.Done old new = HasRun (HoldsExec old.files asked) statuses.Done old new
ExecResultsIn asked answers.Panicked old new = HasRun (HoldsExec old.files asked) statuses.Panicked old new
ExecResultsIn asked answers.Faulted old new = HasRun (HoldsExec old.files asked) statuses.Faulted old new
ExecResultsIn asked answers.OutOfGas old new = HasRun (HoldsExec old.files asked) statuses.OutOfGas old new
ExecResultsIn asked answers.Unanswered old new = HasRun (HoldsExec old.files asked) statuses.Unanswered old new
ExecResultsIn asked answers.BadReply old new = HasRun (HoldsExec old.files asked) statuses.BadReply old new
ExecResultsIn asked (answers.Refused fault) old new =
    (HasLargeFile old.files asked.input fault ⊎ (HasRepliesFault old.files asked fault ⊎ (HasLinkFault old.files asked fault ⊎ HasStartFault old.files asked fault))) × (new ≡ old)
ExecResultsIn asked answers.Usage old new = ⊥
ExecResultsIn asked answers.FileFault old new =
    FailedObject asked.input old new ⊎ (FailedExecReplies asked old new ⊎ FailedTranscript (HoldsExec old.files asked) old new)
ExecResultsIn asked answers.Memory old new = (new ≡ old) ⊎ StoppedRun (HoldsExec old.files asked) old new

-- The name holds a container without such a fault, and its text was put; all else is as before.
pub record HasWritten (first_of : List ℕ → Option Fault) (text_of : Container → List ℕ) (blob : List ℕ)
    (old new : Snapshot) : Type 0 where
  pub container : Container
  pub holds : HoldsContainer first_of old.files blob container
  pub seen : Appends old.out new.out (text_of container)
  pub others : new ≡ record old { out = new.out }

-- A write of the container's text failed after a prefix of it; all else is as before.
pub record FailedText (first_of : List ℕ → Option Fault) (text_of : Container → List ℕ) (blob : List ℕ)
    (old new : Snapshot) : Type 0 where
  pub container : Container
  pub holds : HoldsContainer first_of old.files blob container
  pub seen : AppendsPrefix old.out new.out (text_of container)
  pub cause : Rose old.puts new.puts
  pub others : new ≡ record old { out = new.out; puts = new.puts }

-- The result of a command that writes a text of a container: the text is written; or the command is refused with the
-- first fault of the blob's file; or a read or a write failed; or an allocation failed. After a refusal and after a failed
-- allocation all is as before.
abbrev pub TextResultsIn : (List ℕ → Option Fault) → (Container → List ℕ) → List ℕ → Answer → Snapshot → Snapshot → Type 0
TextResultsIn first_of text_of blob answers.Done old new = HasWritten first_of text_of blob old new
TextResultsIn first_of text_of blob (answers.Refused fault) old new =
    HasFault first_of old.files blob (Some fault) × (new ≡ old)
TextResultsIn first_of text_of blob answers.Panicked old new = ⊥
TextResultsIn first_of text_of blob answers.Faulted old new = ⊥
TextResultsIn first_of text_of blob answers.OutOfGas old new = ⊥
TextResultsIn first_of text_of blob answers.Unanswered old new = ⊥
TextResultsIn first_of text_of blob answers.BadReply old new = ⊥
TextResultsIn first_of text_of blob answers.Usage old new = ⊥
TextResultsIn first_of text_of blob answers.FileFault old new =
    FailedRead blob old new ⊎ FailedText first_of text_of blob old new
TextResultsIn first_of text_of blob answers.Memory old new = new ≡ old

-- the result of a check: its text says that there is no fault
abbrev pub CheckResultsIn : List ℕ → Answer → Snapshot → Snapshot → Type 0
CheckResultsIn blob answer old new = TextResultsIn first_check_fault (λ c. ok_text) blob answer old new

-- the result of a disassembly: the text, and every container has one
abbrev pub DisassembleResultsIn : List ℕ → Answer → Snapshot → Snapshot → Type 0
DisassembleResultsIn blob answer old new =
    TextResultsIn first_disassemble_fault (λ c. disassembly c.program) blob answer old new

-- The result of a command that reads and writes no file: what comes of standard output; all else is as before.
pub record OnOutput (Results : Stream → Stream → Type 0) (old new : Snapshot) : Type 0 where
  pub results : Results (record { text = old.out; puts = old.puts }) (record { text = new.out; puts = new.puts })
  pub others : new ≡ record old { out = new.out; puts = new.puts }

-- The result of the arguments: a usage error is reported as one, and all is as before.
abbrev pub ResultsIn : Option Command → Answer → Snapshot → Snapshot → Type 0
ResultsIn None answer old new = (answer ≡ answers.Usage) × (new ≡ old)
ResultsIn (Some (Link link)) answer old new = LinkResultsIn link answer old new
ResultsIn (Some (Run run)) answer old new = RunResultsIn run answer old new
ResultsIn (Some (Exec exec)) answer old new = ExecResultsIn exec answer old new
ResultsIn (Some (Check blob)) answer old new = CheckResultsIn blob answer old new
ResultsIn (Some (Disassemble blob)) answer old new = DisassembleResultsIn blob answer old new
ResultsIn (Some (Generate asked)) answer old new = OnOutput (GenerateResultsIn asked answer) old new

-- the line was written to standard error, and the status is the wanted one
pub record IsPut (line : List ℕ) (wanted status : Status) (old new : Stream) : Type 0 where
  pub status_is : status ≡ wanted
  pub put : Appends old.text new.text line
  pub others : new.puts ≡ old.puts

-- the write failed after a prefix of the line, and the status is that of a file fault
pub record IsNotPut (line : List ℕ) (status : Status) (old new : Stream) : Type 0 where
  pub status_is : status ≡ statuses.FileFault
  pub put : AppendsPrefix old.text new.text line
  pub cause : Rose old.puts new.puts

abbrev pub Puts : List ℕ → Status → Status → Stream → Stream → Type 0
Puts line wanted status old new = IsPut line wanted status old new ⊎ IsNotPut line status old new

-- how an answer is reported: by its status and its line on standard error, if it has one
abbrev pub Reports : Answer → Status → Stream → Stream → Type 0
Reports answers.Done status old new = (status ≡ statuses.Done) × (new ≡ old)
Reports answers.Panicked status old new = (status ≡ statuses.Panicked) × (new ≡ old)
Reports answers.Faulted status old new = (status ≡ statuses.Faulted) × (new ≡ old)
Reports answers.OutOfGas status old new = (status ≡ statuses.OutOfGas) × (new ≡ old)
Reports answers.Unanswered status old new = (status ≡ statuses.Unanswered) × (new ≡ old)
Reports answers.BadReply status old new = (status ≡ statuses.BadReply) × (new ≡ old)
Reports (answers.Refused fault) status old new = Puts (refused_line fault) statuses.Refused status old new
Reports answers.Usage status old new = Puts usage_line statuses.Usage status old new
Reports answers.FileFault status old new = Puts file_fault_line statuses.FileFault status old new
Reports answers.Memory status old new = Puts memory_line statuses.Memory status old new

-- The result of the arguments is reported.
pub record Concludes (command : Option Command) (status : Status) (old new : Snapshot) (err err' : Stream) : Type 0 where
  pub answer : Answer
  pub results : ResultsIn command answer old new
  pub reports : Reports answer status err err'

-- Every name but the output of a link holds what it held; with another command, or without one, every name does.
abbrev pub KeepsFiles : Option Command → Option Files → Option Files → Type 0
KeepsFiles None old new = new ≡ old
KeepsFiles (Some (Link link)) old new = KeepsOthers link.output old new
KeepsFiles (Some (Run run)) old new = new ≡ old
KeepsFiles (Some (Exec exec)) old new = new ≡ old
KeepsFiles (Some (Check blob)) old new = new ≡ old
KeepsFiles (Some (Disassemble blob)) old new = new ≡ old
KeepsFiles (Some (Generate asked)) old new = new ≡ old
