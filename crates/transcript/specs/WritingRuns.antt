-- What a run on a sink leaves and writes.
use Rattle.std.specs.Prelude.{◌≡◌, ◌⊎◌, ◌<◌, ◌≤◌, ℕ, ◌+◌, ◌-◌, List, [], ◌∷◌, ◌++◌, length, drop, Option, Some, None, Result, Ok, Err}
use Rattle.std.specs.Io.KnownBytes.{Appends}
use Rattle.runs.specs.Runs.{MeteredRun, metered_after, metered_step, run_with_gas}
use Rattle.machine_state.specs.State.{State}
use Rattle.machine_state.specs.Ends.{Event, End, Answer, Answered, Ended, event}
use Rattle.outside.specs.Outside.{Rose, AppendsPrefix}
use Rattle.pvm_machine.specs.Machine.{Machine}
use Rattle.pvm_machine.specs.Stepped.{MapsPages}
use Rattle.pvm_machine.specs.Step.{machine_step}
use Rattle.pvm_machine.specs.Ran.{run_with, call_turn}
use Rattle.inner_machines.specs.Inner.{Inners}
use Rattle.inner_machines.specs.Served.{MayRunOut}
use Rattle.transcript.specs.Hosts.{Reply, HostState, by_replies, answering, left_of}
use Rattle.transcript.specs.Ends.{end_of, HasAddress}
use Rattle.transcript.specs.Lines.{event_lines, transcript}
use Rattle.transcript.specs.declared.run_end.RunEnd.{RunEnd}
use Rattle.transcript.specs.declared.calls.Reaction.{Reaction}
use Rattle.transcript.specs.declared.calls.Reaction.TheVariants.{GoesOn, Ends}
use Rattle.transcript.specs.declared.writing_runs.WriteRunFault.{WriteRunFault}
use Rattle.transcript.specs.declared.writing_runs.WriteRunFault.TheVariants.{Failed, Memory}

-- the text on a sink, and how many puts on it have failed
pub record Stream : Type 0 where
  pub text : Option (List ℕ)
  pub puts : ℕ

-- a put failed after a prefix of the transcript
pub record IsCutOff (run : MeteredRun Event End) (old new : Stream) : Type 0 where
  pub seen : AppendsPrefix old.text new.text (transcript run)
  pub cause : Rose old.puts new.puts

-- An allocation failed at an `sbrk` that would map pages, where the machine is now; the lines of the calls before it
-- were put, a prefix of the transcript.
pub record IsStopped (run : MeteredRun Event End) (m : Machine) (old new : Stream) : Type 0 where
  pub events : List Event
  pub begun : ℕ
  pub held : HostState
  pub reached : run ≡ metered_after events begun (run_with answering held m)
  pub maps : MapsPages m
  pub seen : Appends old.text new.text (event_lines events)
  pub front : AppendsPrefix old.text new.text (transcript run)
  pub puts : new.puts ≡ old.puts

-- An allocation failed at a call on inner machines that allocates, which the machine has made and nothing answered; its
-- line and those of the calls before it were put.
pub record IsStoppedByCall (run : MeteredRun Event End) (m : Machine) (old new : Stream) : Type 0 where
  pub events : List Event
  pub begun : ℕ
  pub held : HostState
  pub number : ℕ
  pub allocates : MayRunOut number
  pub reached : run ≡ metered_after events begun (metered_step (run_with_gas (machine_step answering m.table m.code)) m.gas (call_turn answering held m number))
  pub seen : Appends old.text new.text (event_lines (events ++ event number m.state ∷ []))
  pub front : AppendsPrefix old.text new.text (transcript run)
  pub puts : new.puts ≡ old.puts

-- an allocation failed: at an `sbrk`, or at a call
abbrev pub LacksMemory : MeteredRun Event End → Machine → Stream → Stream → Type 0
LacksMemory run m old new = IsStopped run m old new ⊎ IsStoppedByCall run m old new

abbrev pub FailsToWriteRun : MeteredRun Event End → Machine → WriteRunFault → Stream → Stream → Type 0
FailsToWriteRun run m Failed old new = IsCutOff run old new
FailsToWriteRun run m Memory old new = LacksMemory run m old new

-- a call was answered: the machine goes on with the state that the host left, and pays what an inner machine spent
pub record IsAnswered (asked : Answer HostState) (old : Machine) (held : HostState) (new : Machine) : Type 0 where
  pub spent : ℕ
  pub rest : ℕ
  pub state : State
  pub answered : asked ≡ Answered spent rest (record { state = state; held = held })
  pub suffices : spent + rest ≤ old.gas
  pub machine : new ≡ record old { state = state; gas = old.gas - spent }

-- an answer ends a run with so much gas: the host ends it, or an inner machine asks for more gas than is left
abbrev pub EndsRun : Answer HostState → ℕ → Option End → Type 0
EndsRun (Answered spent rest next) gas end = (gas < spent + rest) × (end ≡ None)
EndsRun (Ended f) gas end = end ≡ Some f

-- a call ends the run, and leaves the gas
pub record IsEndedBy (asked : Answer HostState) (old new : Machine) (end : RunEnd) : Type 0 where
  pub ended : EndsRun asked old.gas (end_of end new.state)
  pub left : new.gas ≡ old.gas
  pub address : HasAddress end

-- what comes of a call that is asked
abbrev pub IsReaction : List Reply → Answer HostState → Machine → Reaction → Inners → Machine → Type 0
IsReaction replies asked old (GoesOn given) inners new = IsAnswered asked old (left_of replies given inners) new × (given ≤ length replies)
IsReaction replies asked old (Ends end) inners new = IsEndedBy asked old new end

-- a call is answered by the next reply, whatever the inner machines are, which stay
abbrev pub RepliesTo : ℕ → List Reply → ℕ → Machine → Reaction → Machine → Type 0
RepliesTo number replies given old reaction new =
    (inners : Inners) → IsReaction replies (by_replies (drop given replies) number (record { state = old.state; held = left_of replies given inners })) old reaction inners new

-- a call is answered by the host of the run; where an allocation failed, it is one that allocates, and nothing changed
abbrev pub AnswersCall : ℕ → List Reply → ℕ → Inners → Machine → Result Reaction WriteRunFault → Inners → Machine → Type 0
AnswersCall number replies given inners old (Ok reaction) inners' new =
    IsReaction replies (answering number (record { state = old.state; held = left_of replies given inners })) old reaction inners' new
AnswersCall number replies given inners old (Err Memory) inners' new = MayRunOut number × (new ≡ old)
AnswersCall number replies given inners old (Err Failed) inners' new = ⊥

-- the run has this end, which left the machine so; the lines of its calls were put
pub record IsRunOut (run : MeteredRun Event End) (m : Machine) (end : RunEnd) (old new : Stream) : Type 0 where
  pub ended : run.end ≡ end_of end m.state
  pub left : run.left ≡ m.gas
  pub address : HasAddress end
  pub seen : Appends old.text new.text (event_lines run.events)
  pub puts : new.puts ≡ old.puts

-- a run to its end, with the lines of its calls
abbrev pub RunsOut : MeteredRun Event End → Machine → Result RunEnd WriteRunFault → Stream → Stream → Type 0
RunsOut run m (Ok end) old new = IsRunOut run m end old new
RunsOut run m (Err fault) old new = FailsToWriteRun run m fault old new

-- the run has this end, which left the machine so, and its transcript was put
pub record RunIsWritten (run : MeteredRun Event End) (m : Machine) (end : RunEnd) (old new : Stream) : Type 0 where
  pub ended : run.end ≡ end_of end m.state
  pub left : run.left ≡ m.gas
  pub seen : Appends old.text new.text (transcript run)
  pub puts : new.puts ≡ old.puts

-- a run with its transcript
abbrev pub WritesRun : MeteredRun Event End → Machine → Result RunEnd WriteRunFault → Stream → Stream → Type 0
WritesRun run m (Ok end) old new = RunIsWritten run m end old new
WritesRun run m (Err fault) old new = FailsToWriteRun run m fault old new
