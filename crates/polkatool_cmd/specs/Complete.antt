-- When a command does what it was asked for: its files are told, they are there and have no fault, and no call outside
-- failed.
use Rattle.std.specs.Prelude.{◌≡◌, ◌⊎◌, ℕ, List, Option, Some, None}
use Rattle.outside.specs.Outside.{Files, Rose}
use Rattle.runs.specs.Runs.{MeteredRun}
use Rattle.machine_state.specs.Ends.{Event, End}
use Rattle.blob_codec.specs.Grammar.{Container}
use Rattle.link_core.specs.Faults.{HasNoFault}
use Rattle.polkatool_cmd.specs.Answers.{Concludes, HoldsContainer, HoldsExec, HoldsRun}
use Rattle.polkatool_cmd.specs.BlobFaults.{first_disassemble_fault}
use Rattle.polkatool_cmd.specs.CheckFaults.{first_check_fault}
use Rattle.polkatool_cmd.specs.Commands.{Command, Link, Run, Exec, Check, Disassemble, Generate}
use Rattle.polkatool_cmd.specs.ExecWords.{ExecCommand}
use Rattle.polkatool_cmd.specs.LinkAnswers.{HasObjects}
use Rattle.polkatool_cmd.specs.LinkWords.{LinkCommand}
use Rattle.polkatool_cmd.specs.RunWords.{RunCommand}
use Rattle.polkatool_cmd.specs.Snapshot.{Snapshot, Stream}
use Rattle.polkatool_cmd.specs.Statuses.{status_of}
use Rattle.polkatool_cmd.specs.declared.status.Status.{Status}
use Rattle.polkatool_cmd.specs.declared.status.Status.TheVariants as statuses

-- the contents of files are known
abbrev pub AreFilesKnown : Option Files → Type 0
AreFilesKnown None = ⊥
AreFilesKnown (Some files) = Unit {0}

-- no count of failed calls rose, nor is one at its last value
pub record NoneFailed (old new : Snapshot) (err err' : Stream) : Type 0 where
  pub reads : ¬ Rose old.reads new.reads
  pub writes : ¬ Rose old.writes new.writes
  pub puts : ¬ Rose old.puts new.puts
  pub err_puts : ¬ Rose err.puts err'.puts

-- the objects of a link are there, within their limits and without a fault
pub record CanLink (seen : Option Files) (link : LinkCommand) (status : Status) : Type 0 where
  pub files : List (List ℕ)
  pub objects : HasObjects seen link.input files
  pub no_fault : HasNoFault files link.input.wanted
  pub status_is : status ≡ statuses.Done

-- the files of a run have no fault, and the run ends with this status
pub record CanRun (seen : Option Files) (asked : RunCommand) (status : Status) : Type 0 where
  pub run : MeteredRun Event End
  pub holds : HoldsRun seen asked run
  pub status_is : status ≡ status_of run.end

-- the same of an exec
pub record CanExec (seen : Option Files) (asked : ExecCommand) (status : Status) : Type 0 where
  pub run : MeteredRun Event End
  pub holds : HoldsExec seen asked run
  pub status_is : status ≡ status_of run.end

-- the container of a check is there, and its program has no fault
pub record CanCheck (seen : Option Files) (blob : List ℕ) (status : Status) : Type 0 where
  pub container : Container
  pub holds : HoldsContainer first_check_fault seen blob container
  pub status_is : status ≡ statuses.Done

-- the container of a disassembly is there
pub record CanDisassemble (seen : Option Files) (blob : List ℕ) (status : Status) : Type 0 where
  pub container : Container
  pub holds : HoldsContainer first_disassemble_fault seen blob container
  pub status_is : status ≡ statuses.Done

-- What a command asks for is there and has no fault, and what it does ends with this status. A generation asks for nothing.
abbrev pub Can : Option Files → Command → Status → Type 0
Can seen (Link link) status = CanLink seen link status
Can seen (Run run) status = CanRun seen run status
Can seen (Exec exec) status = CanExec seen exec status
Can seen (Check blob) status = CanCheck seen blob status
Can seen (Disassemble blob) status = CanDisassemble seen blob status
Can seen (Generate asked) status = status ≡ statuses.Done

-- A command without a fault and without a failed call ends with the status of what it does, or an allocation failed.
abbrev pub CommandsComplete : Type 0
CommandsComplete =
    (command : Command) (wanted status : Status) (old new : Snapshot) (err err' : Stream) → AreFilesKnown old.files → Can old.files command wanted
    → NoneFailed old new err err' → Concludes (Some command) status old new err err' → (status ≡ wanted) ⊎ (status ≡ statuses.Memory)
