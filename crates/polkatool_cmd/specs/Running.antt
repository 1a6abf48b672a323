-- The results of the parts of a run.
use Rattle.std.specs.Prelude.{◌≡◌, ℕ, ◌^◌, ◌≤◌, List, [], length, Option, Some, None, Ok}
use Rattle.std.specs.Io.KnownBytes.{Appends}
use Rattle.runs.specs.Runs.{MeteredRun}
use Rattle.machine_state.specs.Ends.{Event, End}
use Rattle.outside.specs.Outside.{Files}
use Rattle.blob_codec.specs.Grammar.{Container}
use Rattle.blob_codec.specs.Reading.{container_of}
use Rattle.pvm_machine.specs.Machine.{Machine}
use Rattle.pvm_machine.specs.Started.{started}
use Rattle.transcript.specs.Lines.{transcript}
use Rattle.transcript.specs.WritingRuns.{IsCutOff, LacksMemory}
use Rattle.polkatool_cmd.specs.RunWords.{Settings}
use Rattle.polkatool_cmd.specs.RunFaults.{first_start_fault}
use Rattle.polkatool_cmd.specs.Linking.{FailsToReadOne}
use Rattle.polkatool_cmd.specs.Statuses.{status_of}
use Rattle.polkatool_cmd.specs.Snapshot.{Stream, Holds}
use Rattle.polkatool_cmd.specs.declared.answer.Answer.{Answer}
use Rattle.polkatool_cmd.specs.declared.answer.Answer.TheVariants as answers
use Rattle.polkatool_cmd.specs.declared.run_fault.RunFault.{RunFault}
use Rattle.polkatool_cmd.specs.declared.run_fault.RunFault.TheVariants.{Bad, Memory as NoMemory}
use Rattle.polkatool_cmd.specs.declared.status.Status.{Status}
use Rattle.polkatool_cmd.specs.declared.status.Status.TheVariants as statuses

-- the file of replies holds these bytes; without one there are none
abbrev pub HoldsReplies : Option Files → Option (List ℕ) → List ℕ → Type 0
HoldsReplies files None bytes = bytes ≡ []
HoldsReplies files (Some name) bytes = Holds files name bytes

-- the same, and they are not too large
pub record HasReplies (files : Option Files) (name : Option (List ℕ)) (bytes : List ℕ) : Type 0 where
  pub held : HoldsReplies files name bytes
  pub len : length bytes ≤ 2 ^ 20

-- why the file of replies, with a number in the order of reading, isn't read; only a failed read moves the count
abbrev pub FailsToReadReplies : Option Files → Option (List ℕ) → ℕ → ℕ → ℕ → Answer → Type 0
FailsToReadReplies files None number before now answer = ⊥
FailsToReadReplies files (Some name) number before now answer = FailsToReadOne files name number (2 ^ 20) before now answer

-- the file is a container without a fault, and the machine is at the start that is asked for
pub record Starts (file : List ℕ) (asked : Settings) (m : Machine) : Type 0 where
  pub container : Container
  pub no_fault : first_start_fault asked.entry asked.argument file ≡ None
  pub is_container : container_of file ≡ Ok container
  pub machine_is : m ≡ started container asked.entry asked.argument asked.gas

-- a program is not run because of the first fault of its file; an allocation may fail at any time
abbrev pub FailsToStart : List ℕ → Settings → RunFault → Type 0
FailsToStart file asked (Bad fault) = first_start_fault asked.entry asked.argument file ≡ Some fault
FailsToStart file asked NoMemory = Unit {0}

-- the answer of a run with this status of its end
abbrev pub EndsAs : Answer → Status → Type 0
EndsAs answers.Done status = status ≡ statuses.Done
EndsAs answers.Panicked status = status ≡ statuses.Panicked
EndsAs answers.Faulted status = status ≡ statuses.Faulted
EndsAs answers.OutOfGas status = status ≡ statuses.OutOfGas
EndsAs answers.Unanswered status = status ≡ statuses.Unanswered
EndsAs answers.BadReply status = status ≡ statuses.BadReply
EndsAs answer status = ⊥

-- the run ended with the status, and its transcript was put
pub record RunIsWritten (run : MeteredRun Event End) (status : Status) (old new : Stream) : Type 0 where
  pub ended : status_of run.end ≡ status
  pub seen : Appends old.text new.text (transcript run)
  pub puts : new.puts ≡ old.puts

-- How a run is written to a sink: its whole transcript; or a write failed after a prefix of it; or an allocation failed
-- at the machine's instruction.
abbrev pub WritesRun : MeteredRun Event End → Machine → Answer → Stream → Stream → Type 0
WritesRun run m answers.Done old new = RunIsWritten run statuses.Done old new
WritesRun run m answers.Panicked old new = RunIsWritten run statuses.Panicked old new
WritesRun run m answers.Faulted old new = RunIsWritten run statuses.Faulted old new
WritesRun run m answers.OutOfGas old new = RunIsWritten run statuses.OutOfGas old new
WritesRun run m answers.Unanswered old new = RunIsWritten run statuses.Unanswered old new
WritesRun run m answers.BadReply old new = RunIsWritten run statuses.BadReply old new
WritesRun run m answers.FileFault old new = IsCutOff run old new
WritesRun run m answers.Memory old new = LacksMemory run m old new
WritesRun run m answer old new = ⊥
