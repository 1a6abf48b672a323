-- What reads, writes and puts make of a command.
use Rattle.std.proofs.Common.{◌≡◌, ℕ, zero, suc, ◌+◌, ◌<◌, List, [], ◌∷◌, length, Option, Some, None, Err, refl, ap, ◌∙◌, subst, inl, inr, arith}
use Rattle.outside.specs.Outside.{Files, AnswersRead}
use Rattle.outside.specs.declared.folder.ReadFault.{ReadFault}
use Rattle.outside.specs.declared.folder.ReadFault.TheVariants.{TooLarge}
use Rattle.runs.specs.Runs.{MeteredRun}
use Rattle.machine_state.specs.State.{State}
use Rattle.machine_state.specs.Ends.{Event, End}
use Rattle.pvm_machine.specs.Machine.{Machine}
use Rattle.transcript.specs.Ends.{end_of}
use Rattle.transcript.specs.WritingRuns as writing_runs
use Rattle.transcript.specs.declared.run_end.RunEnd.{RunEnd}
use Rattle.polkatool_cmd.specs.declared.answer.Answer.{Answer}
use Rattle.polkatool_cmd.specs.declared.answer.Answer.TheVariants as answers
use Rattle.polkatool_cmd.specs.RunWords.{RunCommand}
use Rattle.polkatool_cmd.specs.ExecWords.{ExecCommand}
use Rattle.transcript.specs.WritingRuns.{LacksMemory}
use Rattle.polkatool_cmd.specs.Answers.{HoldsRun, HoldsExec, HasRun, StoppedRun, RunResultsIn, ExecResultsIn}
use Rattle.polkatool_cmd.specs.Snapshot.{Snapshot, Stream, Holds}
use Rattle.polkatool_cmd.specs.Running.{RunIsWritten, WritesRun, EndsAs}
use Rattle.polkatool_cmd.specs.Statuses.{status_of}
use Rattle.polkatool_cmd.specs.declared.status.Status.{Status}
use Rattle.polkatool_cmd.specs.declared.status.Status.TheVariants as statuses

long_file : (n : ℕ) → (file : List ℕ) × (length file ≡ n)
long_file zero = ([], refl)
long_file (suc n) = let rest = long_file n in (0 ∷ rest.0, omega (arith, rest.1))

-- a file that is too large for its read
pub long-read :
    (files : Option Files) (name : List ℕ) (limit : ℕ) (fault : ReadFault) → fault ≡ TooLarge
    → AnswersRead files name limit (Err fault) → (file : List ℕ) × Holds files name file × (limit < length file)
long-read None name limit fault is answer =
    let long = long_file (limit + 1) in
    (long.0, tt, omega (arith, long.1))
long-read (Some files) name limit fault is answer =
    let P : ReadFault → Type 0 = λ f. AnswersRead (Some files) name limit (Err f) in
    subst P is answer

-- a run that ended with a status, and whose transcript was written
has_run : (IsAsked : MeteredRun Event End → Type 0) (run : MeteredRun Event End) (status : Status) (old new : Snapshot)
    → IsAsked run
    → RunIsWritten run status (record { text = old.out; puts = old.puts }) (record { text = new.out; puts = new.puts })
    → new ≡ record old { out = new.out; puts = new.puts }
    → HasRun IsAsked status old new
has_run IsAsked run status old new asked seen others = record {
  run = run;
  is_run = asked;
  ended = seen.ended;
  seen = seen.seen;
  others = others ∙ ap (λ puts. record old { out = new.out; puts = puts }) seen.puts;
}

-- no put failed
no_more_puts : (run : MeteredRun Event End) (m : Machine) (old new : Stream) → LacksMemory run m old new → new.puts ≡ old.puts
no_more_puts run m old new (inl stopped) = stopped.puts
no_more_puts run m old new (inr stopped) = stopped.puts

has_stopped : (IsAsked : MeteredRun Event End → Type 0) (run : MeteredRun Event End) (m : Machine) (old new : Snapshot)
    → IsAsked run
    → LacksMemory run m (record { text = old.out; puts = old.puts }) (record { text = new.out; puts = new.puts })
    → new ≡ record old { out = new.out; puts = new.puts }
    → StoppedRun IsAsked old new
has_stopped IsAsked run m old new asked seen others = record {
  run = run;
  is_run = asked;
  machine = m;
  stopped = seen;
  others = others ∙ ap (λ puts. record old { out = new.out; puts = puts }) (no_more_puts run m _ _ seen);
}

-- a run whose transcript was written to standard output, with nothing else changed
pub RunResultsIn-seen :
    (asked : RunCommand) (run : MeteredRun Event End) (m : Machine) (answer : Answer) (old new : Snapshot)
    → HoldsRun old.files asked run
    → WritesRun run m answer (record { text = old.out; puts = old.puts }) (record { text = new.out; puts = new.puts })
    → new ≡ record old { out = new.out; puts = new.puts }
    → RunResultsIn asked answer old new
RunResultsIn-seen asked run m answers.Done old new holds seen others = has_run (HoldsRun old.files asked) run statuses.Done old new holds seen others
RunResultsIn-seen asked run m answers.Panicked old new holds seen others = has_run (HoldsRun old.files asked) run statuses.Panicked old new holds seen others
RunResultsIn-seen asked run m answers.Faulted old new holds seen others = has_run (HoldsRun old.files asked) run statuses.Faulted old new holds seen others
RunResultsIn-seen asked run m answers.OutOfGas old new holds seen others = has_run (HoldsRun old.files asked) run statuses.OutOfGas old new holds seen others
RunResultsIn-seen asked run m answers.Unanswered old new holds seen others = has_run (HoldsRun old.files asked) run statuses.Unanswered old new holds seen others
RunResultsIn-seen asked run m answers.BadReply old new holds seen others = has_run (HoldsRun old.files asked) run statuses.BadReply old new holds seen others
RunResultsIn-seen asked run m (answers.Refused fault) old new holds seen others = absurd seen
RunResultsIn-seen asked run m answers.Usage old new holds seen others = absurd seen
RunResultsIn-seen asked run m answers.FileFault old new holds seen others =
    inr (inr (record { run = run; is_run = holds; seen = seen.seen; cause = seen.cause; others = others }))
RunResultsIn-seen asked run m answers.Memory old new holds seen others = inr (has_stopped (HoldsRun old.files asked) run m old new holds seen others)

-- an exec whose transcript was written to standard output, with nothing else changed
pub ExecResultsIn-seen :
    (asked : ExecCommand) (run : MeteredRun Event End) (m : Machine) (answer : Answer) (old new : Snapshot)
    → HoldsExec old.files asked run
    → WritesRun run m answer (record { text = old.out; puts = old.puts }) (record { text = new.out; puts = new.puts })
    → new ≡ record old { out = new.out; puts = new.puts }
    → ExecResultsIn asked answer old new
ExecResultsIn-seen asked run m answers.Done old new holds seen others = has_run (HoldsExec old.files asked) run statuses.Done old new holds seen others
ExecResultsIn-seen asked run m answers.Panicked old new holds seen others = has_run (HoldsExec old.files asked) run statuses.Panicked old new holds seen others
ExecResultsIn-seen asked run m answers.Faulted old new holds seen others = has_run (HoldsExec old.files asked) run statuses.Faulted old new holds seen others
ExecResultsIn-seen asked run m answers.OutOfGas old new holds seen others = has_run (HoldsExec old.files asked) run statuses.OutOfGas old new holds seen others
ExecResultsIn-seen asked run m answers.Unanswered old new holds seen others = has_run (HoldsExec old.files asked) run statuses.Unanswered old new holds seen others
ExecResultsIn-seen asked run m answers.BadReply old new holds seen others = has_run (HoldsExec old.files asked) run statuses.BadReply old new holds seen others
ExecResultsIn-seen asked run m (answers.Refused fault) old new holds seen others = absurd seen
ExecResultsIn-seen asked run m answers.Usage old new holds seen others = absurd seen
ExecResultsIn-seen asked run m answers.FileFault old new holds seen others =
    inr (inr (record { run = run; is_run = holds; seen = seen.seen; cause = seen.cause; others = others }))
ExecResultsIn-seen asked run m answers.Memory old new holds seen others = inr (has_stopped (HoldsExec old.files asked) run m old new holds seen others)

-- a run whose transcript was written to the end is reported by its answer
written_status : (run : MeteredRun Event End) (m : Machine) (end : RunEnd) (status : Status) (old new : Stream) → writing_runs.RunIsWritten run m end old new → status_of (end_of end m.state) ≡ status → RunIsWritten run status old new
written_status run m end status old new seen is = record { ended = ap status_of seen.ended ∙ is; seen = seen.seen; puts = seen.puts }

pub WritesRun-end : (run : MeteredRun Event End) (m : Machine) (end : RunEnd) (answer : Answer) (old new : Stream) → writing_runs.RunIsWritten run m end old new → ((s : State) → EndsAs answer (status_of (end_of end s))) → WritesRun run m answer old new
WritesRun-end run m end answers.Done old new seen ends = written_status run m end statuses.Done old new seen (ends m.state)
WritesRun-end run m end answers.Panicked old new seen ends = written_status run m end statuses.Panicked old new seen (ends m.state)
WritesRun-end run m end answers.Faulted old new seen ends = written_status run m end statuses.Faulted old new seen (ends m.state)
WritesRun-end run m end answers.OutOfGas old new seen ends = written_status run m end statuses.OutOfGas old new seen (ends m.state)
WritesRun-end run m end answers.Unanswered old new seen ends = written_status run m end statuses.Unanswered old new seen (ends m.state)
WritesRun-end run m end answers.BadReply old new seen ends = written_status run m end statuses.BadReply old new seen (ends m.state)
WritesRun-end run m end (answers.Refused fault) old new seen ends = absurd (ends m.state)
WritesRun-end run m end answers.Usage old new seen ends = absurd (ends m.state)
WritesRun-end run m end answers.FileFault old new seen ends = absurd (ends m.state)
WritesRun-end run m end answers.Memory old new seen ends = absurd (ends m.state)
