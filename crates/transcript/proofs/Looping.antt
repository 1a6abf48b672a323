-- The loop that runs a machine and answers its calls.
use Rattle.std.proofs.Common.{◌≡◌, ℕ, zero, suc, ◌+◌, ◌-◌, ◌<◌, ◌≤◌, List, [], ◌∷◌, ◌++◌, length, take, drop, slice_get, Option, Some, None, Ok, Err, refl, ap, sym, ◌∙◌, subst, arith, append_assoc, inr}
use Rattle.std.specs.Io.KnownBytes.{Appends}
use Rattle.std.proofs.KnownBytes.{Appends-nil, Appends-trans}
use Rattle.std.proofs.lemmas.Grind.{flat_map-append}
use Rattle.std.proofs.lemmas.List.{append-nil}
use Rattle.std.proofs.Math.Seq.{take-append_seam}
use Rattle.inner_machines.specs.Inner.{Inners, no_inners}
use Rattle.inner_machines.specs.Served.{MayRunOut}
use Rattle.runs.specs.Runs.{MeteredRun, metered_after, metered_step, run_with_gas}
use Rattle.runs.proofs.RunLoop.{Reached, reaches_start, metered_after_twice}
use Rattle.machine_state.specs.Ends.{Event, End, Answer, Answered, Ended, event}
use Rattle.outside.specs.Outside.{Rose, AppendsPrefix}
use Rattle.outside.proofs.Prefixes.{AppendsPrefix-after, AppendsPrefix-longer}
use Rattle.pvm_machine.specs.Machine.{Machine, run_state}
use Rattle.pvm_machine.specs.Step.{machine_step}
use Rattle.pvm_machine.specs.Stepped.{all_steps, Keeps, MapsPages}
use Rattle.pvm_machine.specs.Ran.{run_with, call_turn, IsRunWith}
use Rattle.pvm_machine.specs.declared.answers.Step.TheVariants as answer
use Rattle.pvm_machine.proofs.Hosted.{call_is_paid, ended_here, to_call, answered_on, short_of_gas, ended_by, seen_next}
use Rattle.transcript.specs.Hosts.{Reply, HostState, start_host, answering, left_of}
use Rattle.transcript.specs.Ends.{end_of, HasAddress}
use Rattle.transcript.specs.Lines.{event_line, event_lines, last_lines, transcript}
use Rattle.transcript.specs.WritingRuns.{Stream, IsRunOut, RunIsWritten, IsCutOff, IsStopped, IsStoppedByCall, IsAnswered, EndsRun, IsEndedBy, AnswersCall, FailsToWriteRun}
use Rattle.transcript.specs.declared.writing_runs.WriteRunFault.{WriteRunFault}
use Rattle.transcript.specs.declared.writing_runs.WriteRunFault.TheVariants.{Failed, Memory}
use Rattle.transcript.specs.declared.run_end.RunEnd.{RunEnd}

-- The invariant of the loop, with a machine, its inner machines and the number of replies that were given: the whole run
-- is the events and the instructions up to here, and then the run from here with the replies that are left. The lines of
-- the events are on the sink.
pub record SoFar (replies : List Reply) (first : Machine) (old : Stream) (given : ℕ) (inners : Inners) (m : Machine) (now : Stream) : Type 0 where
  pub events : List Event
  pub begun : ℕ
  pub reached : Reached (machine_step answering m.table m.code) first.gas (run_state first (start_host replies)) events begun m.gas (run_state m (left_of replies given inners))
  pub table : m.table ≡ first.table
  pub code : m.code ≡ first.code
  pub seen : Appends old.text now.text (event_lines events)
  pub puts : now.puts ≡ old.puts
  pub within : given ≤ length replies

-- so the loop begins
pub begins : (replies : List Reply) (m : Machine) (inners : Inners) (old : Stream) → inners ≡ no_inners → SoFar replies m old 0 inners m old
begins replies m inners old none = subst (λ (h : Inners). SoFar replies m old 0 h m old) (sym none) (record {
  events = [];
  begun = 0;
  reached = reaches_start (machine_step answering m.table m.code) m.gas (run_state m (start_host replies));
  table = refl;
  code = refl;
  seen = Appends-nil old.text;
  puts = refl;
  within = omega arith;
})

-- the whole run
abbrev whole_run : List Reply → Machine → MeteredRun Event End
whole_run replies first = run_with answering (start_host replies) first

module _ (replies : List Reply) (first : Machine) (old : Stream) (given : ℕ) (inners : Inners) (m : Machine) (now : Stream) (so : SoFar replies first old given inners m now) where
  -- the run of the program that the machine has here
  abbrev run_here : MeteredRun Event End
  run_here = whole_run replies (record first { table = m.table; code = m.code })

  same_run : whole_run replies first ≡ run_here
  same_run =
      sym (ap (λ t. whole_run replies (record first { table = t; code = m.code })) so.table ∙ ap (λ c. whole_run replies (record first { code = c })) so.code)

  -- the lines on the sink are a prefix of the transcript, however the run goes on
  put_before : AppendsPrefix old.text now.text (transcript (whole_run replies first))
  put_before =
      let run = whole_run replies first in
      let last = last_lines run.end run.left in
      let rest = (run_with_gas (machine_step answering m.table m.code) m.gas (run_state m (left_of replies given inners))).events in
      let lines : transcript run ≡ event_lines so.events ++ (event_lines rest ++ last) =
      ap (λ l. event_lines l ++ last) (ap (λ (r : MeteredRun Event End). r.events) (same_run ∙ so.reached))
      ∙ ap (λ l. l ++ last) (flat_map-append event_line so.events rest)
      ∙ append_assoc (event_lines so.events) (event_lines rest) last in
      (length (event_lines so.events), subst (Appends old.text now.text) (sym (ap (take (length (event_lines so.events))) lines ∙ take-append_seam (event_lines so.events) (event_lines rest ++ last))) so.seen)

  -- an allocation fails
  pub stops : (next : Machine) → IsRunWith answering (left_of replies given inners) m next answer.Memory → MapsPages next → IsStopped (whole_run replies first) next old now
  stops next ran maps = record {
    events = so.events;
    begun = so.begun + (m.gas - next.gas);
    held = left_of replies given inners;
    reached =
        same_run
        ∙ so.reached
        ∙ ap (metered_after so.events so.begun) ran
        ∙ metered_after_twice so.events [] so.begun (m.gas - next.gas) (run_with answering (left_of replies given inners) next)
        ∙ ap (λ l. metered_after l (so.begun + (m.gas - next.gas)) (run_with answering (left_of replies given inners) next)) (append-nil so.events);
    maps = maps;
    seen = so.seen;
    front = put_before;
    puts = so.puts;
  }

  -- the run ends without another call
  pub runs_out : (next : Machine) (end : RunEnd) → run_with answering (left_of replies given inners) m ≡ record { events = []; end = end_of end next.state; left = next.gas; begun = m.gas - next.gas } → HasAddress end
      → IsRunOut (whole_run replies first) next end old now
  runs_out next end last address =
      let ran = same_run ∙ ended_here answering first.gas (run_state first (start_host replies)) m (left_of replies given inners) so.events so.begun so.reached next (end_of end next.state) last in
      record {
        ended = ap (λ (r : MeteredRun Event End). r.end) ran;
        left = ap (λ (r : MeteredRun Event End). r.left) ran;
        address = address;
        seen = subst (Appends old.text now.text) (sym (ap (λ (r : MeteredRun Event End). event_lines r.events) ran)) so.seen;
        puts = so.puts;
      }

  module _ (next : Machine) (number : ℕ) (is : record { machine = next; answer = answer.Host number } ≡ all_steps m) (keeps : Keeps m next) where
    abbrev seen : Event
    seen = event number next.state

    -- the line of the call is the next of the transcript
    with_call : (rest : List ℕ) × (transcript (whole_run replies first) ≡ (event_lines so.events ++ event_line seen) ++ rest)
    with_call =
        let more = seen_next answering first.gas (run_state first (start_host replies)) m (left_of replies given inners) so.events so.begun so.reached next number is in
        let run = whole_run replies first in
        let last = last_lines run.end run.left in (
          event_lines more.0 ++ last,
          ap (λ l. event_lines l ++ last) (ap (λ (r : MeteredRun Event End). r.events) same_run ∙ more.1)
              ∙ ap (λ l. l ++ last) (flat_map-append event_line so.events (seen ∷ more.0) ∙ sym (append_assoc (event_lines so.events) (event_line seen) (event_lines more.0)))
              ∙ append_assoc (event_lines so.events ++ event_line seen) (event_lines more.0) last,
        )

    -- the line of the call could not be put
    pub not_seen : (new : Stream) → AppendsPrefix now.text new.text (event_line seen) → Rose now.puts new.puts → IsCutOff (whole_run replies first) old new
    not_seen new front rose =
        record {
          seen = subst (AppendsPrefix old.text new.text) (sym with_call.1) (AppendsPrefix-longer _ _ _ with_call.0 (AppendsPrefix-after _ _ _ (event_lines so.events) (event_line seen) so.seen front));
          cause = subst (λ n. Rose n new.puts) so.puts rose;
        }

    module _ (new : Stream) (put : Appends now.text new.text (event_line seen)) (puts : new.puts ≡ now.puts) where
      seen_more : Appends old.text new.text (event_lines (so.events ++ seen ∷ []))
      seen_more =
          subst (Appends old.text new.text) (ap (λ l. event_lines so.events ++ l) (sym (append-nil (event_line seen))) ∙ sym (flat_map-append event_line so.events (seen ∷ [])))
          (Appends-trans _ _ _ (event_lines so.events) (event_line seen) so.seen put)

      -- the lines with that of the call are a prefix of the transcript
      put_with_call : AppendsPrefix old.text new.text (transcript (whole_run replies first))
      put_with_call =
          let lines = event_lines so.events ++ event_line seen in
          (length lines, subst (Appends old.text new.text) (sym (ap (take (length lines)) with_call.1 ∙ take-append_seam lines with_call.0)) (Appends-trans _ _ _ (event_lines so.events) (event_line seen) so.seen put))

      abbrev asked : Answer HostState
      asked = answering number (record { state = next.state; held = left_of replies given inners })

      -- the run has this end
      ends_so : (after : Machine) (end : RunEnd) (f : Option End) → whole_run replies first ≡ record { events = so.events ++ seen ∷ []; end = f; left = next.gas; begun = so.begun + (m.gas - (next.gas + 1)) + 1 }
          → end_of end after.state ≡ f → after.gas ≡ next.gas → HasAddress end → IsRunOut (whole_run replies first) after end old new
      ends_so after end f ran same gas address = record {
        ended = ap (λ (r : MeteredRun Event End). r.end) ran ∙ sym same;
        left = ap (λ (r : MeteredRun Event End). r.left) ran ∙ sym gas;
        address = address;
        seen = subst (Appends old.text new.text) (sym (ap (λ (r : MeteredRun Event End). event_lines r.events) ran)) seen_more;
        puts = puts ∙ so.puts;
      }

      -- the call ends the run
      pub ends_by : (after : Machine) (end : RunEnd) → IsEndedBy asked next after end → IsRunOut (whole_run replies first) after end old new
      ends_by after end by = by_answer asked refl by.ended
        where
          by_answer : (a : Answer HostState) → asked ≡ a → EndsRun a next.gas (end_of end after.state) → IsRunOut (whole_run replies first) after end old new
          by_answer (Answered spent rest w) e h =
              ends_so after end None (same_run ∙ short_of_gas answering first.gas (run_state first (start_host replies)) m (left_of replies given inners) so.events so.begun so.reached next number is spent rest w e h.0) h.1 by.left by.address
          by_answer (Ended f) e h =
              ends_so after end (Some f) (same_run ∙ ended_by answering first.gas (run_state first (start_host replies)) m (left_of replies given inners) so.events so.begun so.reached next number is f e) h by.left by.address

      -- the call is answered, and the loop goes on
      pub goes_on : (after : Machine) (now' : ℕ) (inners' : Inners) → IsAnswered asked next (left_of replies now' inners') after → now' ≤ length replies → SoFar replies first old now' inners' after new
      goes_on after now' inners' a few =
          let on = answered_on answering first.gas (run_state first (start_host replies)) m (left_of replies given inners) so.events so.begun so.reached next number is a.spent a.rest _ a.answered a.suffices in
          let there : Machine = record next { state = a.state; gas = next.gas - a.spent } in
          let so_far : SoFar replies first old now' inners' there new = record {
            events = so.events ++ seen ∷ [];
            begun = so.begun + (m.gas - (next.gas + 1)) + (1 + a.spent);
            reached = rw (keeps.table, keeps.code) on;
            table = keeps.table ∙ so.table;
            code = keeps.code ∙ so.code;
            seen = seen_more;
            puts = puts ∙ so.puts;
            within = few;
          } in
          subst (λ (n : Machine). SoFar replies first old now' inners' n new) (sym a.machine) so_far

      -- an allocation fails at the call
      pub stops_by : (after : Machine) → MayRunOut number → after ≡ next → IsStoppedByCall (whole_run replies first) after old new
      stops_by after may same =
          let Stops : Machine → Type 0 = λ n. IsStoppedByCall (whole_run replies first) n old new in
          subst Stops (sym same) (record {
            events = so.events;
            begun = so.begun + (m.gas - (next.gas + 1));
            held = left_of replies given inners;
            number = number;
            allocates = may;
            reached = same_run ∙ rw (keeps.table, keeps.code) (to_call answering first.gas (run_state first (start_host replies)) m (left_of replies given inners) so.events so.begun so.reached next number is);
            seen = seen_more;
            front = put_with_call;
            puts = puts ∙ so.puts;
          })

      pub call_fails : (after : Machine) (inners' : Inners) (fault : WriteRunFault) → AnswersCall number replies given inners next (Err fault) inners' after → FailsToWriteRun (whole_run replies first) after fault old new
      call_fails after inners' Failed by = absurd by
      call_fails after inners' Memory by = inr (stops_by after by.0 by.1)

-- the lines of the end are the last
pub last_seen : (run : MeteredRun Event End) (m : Machine) (end : RunEnd) (old now new : Stream) → IsRunOut run m end old now
    → Appends now.text new.text (last_lines (end_of end m.state) m.gas) → new.puts ≡ now.puts → RunIsWritten run m end old new
last_seen run m end old now new out put puts = record {
  ended = out.ended;
  left = out.left;
  seen = Appends-trans _ _ _ (event_lines run.events) (last_lines run.end run.left) out.seen (rw (out.ended, out.left) put);
  puts = puts ∙ out.puts;
}

-- they could not be put
pub last_not_seen : (run : MeteredRun Event End) (m : Machine) (end : RunEnd) (old now new : Stream) → IsRunOut run m end old now
    → AppendsPrefix now.text new.text (last_lines (end_of end m.state) m.gas) → Rose now.puts new.puts → IsCutOff run old new
last_not_seen run m end old now new out front rose = record {
  seen = AppendsPrefix-after _ _ _ (event_lines run.events) (last_lines run.end run.left) out.seen (rw (out.ended, out.left) front);
  cause = subst (λ n. Rose n new.puts) out.puts rose;
}

-- each turn of the loop has less gas than the one before
pub smaller : (m next after : Machine) (number : ℕ) (asked : Answer HostState) (held : HostState) → record { machine = next; answer = answer.Host number } ≡ all_steps m → IsAnswered asked next held after → after.gas < m.gas
smaller m next after number asked held is a =
    omega (arith, call_is_paid answering (start_host []) m next number is, ap (λ (n : Machine). n.gas) a.machine)
