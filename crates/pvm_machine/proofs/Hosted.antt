-- The run of a machine with any host, by the machine's steps alone: up to the last step all turns are quiet, and where the
-- last one calls the host, the run is the host's answer and what comes then. So a program that repeats steps, and answers
-- a call itself each time, makes this run.
use Rattle.std.proofs.Common.{◌≡◌, ℕ, zero, suc, ◌+◌, ◌-◌, ◌<◌, ◌≤◌, Bool, true, false, List, [], ◌∷◌, ◌++◌, Option, Some, None, refl, ap, sym, ◌∙◌, subst, arith, zero-add}
use Rattle.std.specs.Prelude.{nat_le}
use Rattle.std.proofs.lemmas.Bool.{le-leb, lt-leb}
use Rattle.std.proofs.lemmas.List.{append-nil}
use Rattle.runs.specs.Turn.{Turn, Goes, Stops}
use Rattle.runs.specs.Runs.{MeteredRun, metered_after, go_if, metered_step, run_with_gas}
use Rattle.runs.specs.Machine.{Outcome, Next, Jump, Call, Ends, At, placed, move}
use Rattle.runs.specs.World.{World, beside}
use Rattle.runs.specs.Lockstep.{Fetched}
use Rattle.runs.proofs.RunLoop.{one_instruction, metered_after_twice, Reached, reaches_start, reaches_silently, reaches_end}
use Rattle.machine_state.specs.Memory.{Memory}
use Rattle.machine_state.specs.State.{State}
use Rattle.machine_state.specs.Ends.{Event, End, Halt, Panic, Fault, Unanswered, BadReply, Answer, Answered, Ended, Host, event, called, no_host, rules}
use Rattle.pvm_machine.specs.Machine.{Machine, run_state}
use Rattle.pvm_machine.specs.Step.{FetchedInstr, instr_at, machine_step}
use Rattle.pvm_machine.specs.Stepped.{Stepped, gone, after_outcome, begun, stayed, stepped, all_steps, LeadsTo, AreSteps}
use Rattle.pvm_machine.specs.Ran.{last_answer, run_with, call_turn, IsRunWith, IsRun}
use Rattle.pvm_machine.specs.declared.answers.Step.{Step}
use Rattle.pvm_machine.specs.declared.answers.Step.TheVariants as answer
use Rattle.pvm_machine.specs.declared.answers.Exit.{Exit}
use Rattle.pvm_machine.specs.declared.answers.Exit.TheVariants as exit
use Rattle.pvm_machine.proofs.Steps.{begins, no_step}
use Rattle.pvm_machine.proofs.Runs.{steps_on, steps_end}
use Rattle.pvm_machine.proofs.Turns.{turns}
use Rattle.pvm_machine.specs.declared.operation.Operation.{Operation}
use Rattle.pvm_machine.specs.Operations.{operation_of}
use Rattle.pvm_machine.proofs.Done.{IsDone, is_done}

-- what a last step has paid before the machine is after it: a call, its instruction
abbrev cost : Step → ℕ
cost answer.Next = 0
cost answer.Halt = 0
cost answer.Panic = 0
cost (answer.Fault address) = 0
cost answer.OutOfGas = 0
cost (answer.Host number) = 1
cost answer.Memory = 0

one_at_most : (how : Step) → cost how ≤ 1
one_at_most answer.Next = omega arith
one_at_most answer.Halt = omega arith
one_at_most answer.Panic = omega arith
one_at_most (answer.Fault address) = omega arith
one_at_most answer.OutOfGas = omega arith
one_at_most (answer.Host number) = omega arith
one_at_most answer.Memory = omega arith

-- what a step that goes on leaves as it is, and what it costs
pub record GoesOn (m next : Machine) : Type 0 where
  pub table : next.table ≡ m.table
  pub code : next.code ≡ m.code
  pub gas : m.gas ≡ suc next.gas

after_outcome_goes : (m : Machine) (k next : ℕ) (x : Outcome ℕ State End) → m.gas ≡ suc k → (after_outcome (record m { gas = k }) next x).answer ≡ answer.Next → GoesOn m (after_outcome (record m { gas = k }) next x).machine
after_outcome_goes m k next (Next s) gas e = record { table = refl; code = refl; gas = gas }
after_outcome_goes m k next (Jump target s) gas e = record { table = refl; code = refl; gas = gas }
after_outcome_goes m k next (Call number s) gas e = absurd cc
after_outcome_goes m k next (Ends (Halt registers memory)) gas e = absurd cc
after_outcome_goes m k next (Ends (Panic memory)) gas e = absurd cc
after_outcome_goes m k next (Ends (Fault address memory)) gas e = absurd cc
after_outcome_goes m k next (Ends (Unanswered number memory)) gas e = absurd cc
after_outcome_goes m k next (Ends (BadReply line address memory)) gas e = absurd cc

begun_goes : (m : Machine) (k : ℕ) (o : Option (Fetched FetchedInstr ℕ)) → m.gas ≡ suc k → (begun (record m { gas = k }) o).answer ≡ answer.Next → GoesOn m (begun (record m { gas = k }) o).machine
begun_goes m k None gas e = absurd cc
begun_goes m k (Some f) gas e = after_outcome_goes m k f.next _ gas e

goes_on : (m : Machine) → (stepped m).answer ≡ answer.Next → GoesOn m (stepped m).machine
goes_on m e = by_gas m.gas refl
  where
    by_gas : (gas : ℕ) → m.gas ≡ gas → GoesOn m (stepped m).machine
    by_gas zero none =
        let no : answer.OutOfGas ≡ answer.Next = sym (ap (λ (r : Stepped). r.answer) (no_step m none)) ∙ e in
        absurd cc
    by_gas (suc k) some =
        let is = begins m k some in
        let on : (begun (record m { gas = k }) (instr_at m.code m.counter)).answer ≡ answer.Next = sym (ap (λ (r : Stepped). r.answer) is) ∙ e in
        rw is (begun_goes m k (instr_at m.code m.counter) some on)

module _ {Held : Type 0} (host : Host Held) (held : Held) where
  abbrev steps_of : Machine → At ℕ (World State Held) → Turn (At ℕ (World State Held)) Event End
  steps_of m = machine_step host m.table m.code

  -- a machine ran so, and has no more gas than before
  pub record Runs (m : Machine) (r : Stepped) : Type 0 where
    pub run : IsRunWith host held m r.machine r.answer
    pub less : r.machine.gas + cost r.answer ≤ m.gas

  -- a quiet step before a run
  one_step : (m next : Machine) → next.table ≡ m.table → next.code ≡ m.code → m.gas ≡ suc next.gas → steps_of m (run_state m held) ≡ Goes [] 0 0 (run_state next held) → run_with host held m ≡ metered_after [] 1 (run_with host held next)
  one_step m next table code gas turn =
      let first : run_with_gas (steps_of m) (suc next.gas) (run_state m held) ≡ metered_after [] 1 (run_with_gas (steps_of m) next.gas (run_state next held)) = reaches_silently (steps_of m) (suc next.gas) (run_state m held) 0 next.gas (run_state m held) (run_state next held) (reaches_start (steps_of m) (suc next.gas) (run_state m held)) turn in
      rw (table, code) (ap (λ (g : ℕ). run_with_gas (steps_of m) g (run_state m held)) gas ∙ first)

  -- an instruction more before a run
  one_more : (m next new : Machine) (how : Step) → m.table ≡ next.table → m.code ≡ next.code → run_with host held m ≡ metered_after [] 1 (run_with host held next) → m.gas ≡ suc next.gas → new.gas + cost how ≤ next.gas → IsRunWith host held next new how → IsRunWith host held m new how
  one_more m next new how table code is gas less ran = by_answer how ran less
    where
      seen : (end : Option End) → new.gas ≤ next.gas → run_with host held next ≡ record { events = []; end = end; left = new.gas; begun = next.gas - new.gas } → run_with host held m ≡ record { events = []; end = end; left = new.gas; begun = m.gas - new.gas }
      seen end le e =
          let count : 1 + (next.gas - new.gas) ≡ m.gas - new.gas = omega arith in
          is ∙ ap (metered_after [] 1) e ∙ ap (λ (n : ℕ). record { events = []; end = end; left = new.gas; begun = n }) count

      by_answer : (how : Step) → IsRunWith host held next new how → new.gas + cost how ≤ next.gas → IsRunWith host held m new how
      by_answer answer.Next h le = h
      by_answer answer.Halt h le = seen _ (omega arith) h
      by_answer answer.Panic h le = seen _ (omega arith) h
      by_answer (answer.Fault address) h le = seen _ (omega arith) h
      by_answer answer.OutOfGas h le = seen _ (omega arith) h
      by_answer (answer.Host number) h le =
          let p : MeteredRun Event End = metered_step (run_with_gas (steps_of m)) new.gas (call_turn host held new number) in
          let h' : run_with host held next ≡ metered_after [] (next.gas - (new.gas + 1)) p = rw (table, code) h in
          let count : 1 + (next.gas - (new.gas + 1) + p.begun) ≡ m.gas - (new.gas + 1) + p.begun = omega arith in
          is ∙ ap (metered_after [] 1) h' ∙ ap (λ (n : ℕ). record { events = p.events; end = p.end; left = p.left; begun = n }) count
      by_answer answer.Memory h le =
          let p : MeteredRun Event End = run_with host held new in
          let count : 1 + (next.gas - new.gas + p.begun) ≡ m.gas - new.gas + p.begun = omega arith in
          is ∙ ap (metered_after [] 1) h ∙ ap (λ (n : ℕ). record { events = p.events; end = p.end; left = p.left; begun = n }) count

  -- a machine with gas for an instruction, where machines with one less run so
  module _ (k : ℕ) (rest : (m : Machine) → m.gas ≡ k → Runs m (all_steps m)) (m : Machine) (gas : m.gas ≡ suc k) where
    -- the machine, where it has gone to
    abbrev gone_to : ℕ → State → Machine
    gone_to at s = record { table = m.table; code = m.code; counter = at; state = s; gas = k }

    -- a quiet step, and then the rest
    goes : (at : ℕ) (s : State) → steps_of m (run_state m held) ≡ Goes [] 0 0 (record { at = at; of = record { state = s; held = held } }) → stepped m ≡ gone (record m { gas = k }) at s answer.Next → Runs m (all_steps m)
    goes at s turn is =
        let n : Machine = gone_to at s in
        let on : all_steps m ≡ all_steps n = steps_on m n (sym is) (omega arith) in
        let later : Runs n (all_steps n) = rest n refl in
        let whole : run_with host held m ≡ metered_after [] 1 (run_with host held n) = one_step m n refl refl gas turn in
        let less : (all_steps n).machine.gas + cost (all_steps n).answer ≤ m.gas = omega (arith, later.less) in
        rw on (record { run = one_more m n (all_steps n).machine (all_steps n).answer refl refl whole (omega arith) later.less later.run; less = less })

    -- the run that ends now without a host call
    abbrev ends_so : End → MeteredRun Event End
    ends_so end = record { events = []; end = Some end; left = k; begun = m.gas - k }

    -- a step that ends the run
    stops : (end : End) → steps_of m (run_state m held) ≡ Stops [] end → run_with host held m ≡ record { events = []; end = Some end; left = k; begun = m.gas - k }
    stops end turn =
        let last = reaches_end (steps_of m) (suc k) (run_state m held) 0 k (run_state m held) [] end (reaches_start (steps_of m) (suc k) (run_state m held)) turn in
        let one : 0 + 1 ≡ m.gas - k = omega arith in
        ap (λ (g : ℕ). run_with_gas (steps_of m) g (run_state m held)) gas ∙ last ∙ ap (λ (n : ℕ). record { events = []; end = Some end; left = k; begun = n }) one

    -- a step that calls the host
    calls : (number next : ℕ) (s : State) → steps_of m (run_state m held) ≡ call_turn host held (gone_to next s) number → IsRunWith host held m (gone_to next s) (answer.Host number)
    calls number next s turn =
        let p : MeteredRun Event End = metered_step (run_with_gas (steps_of m)) k (call_turn host held (gone_to next s) number) in
        let none : 0 ≡ m.gas - (k + 1) = omega arith in
        ap (λ (g : ℕ). run_with_gas (steps_of m) g (run_state m held)) gas
        ∙ one_instruction (steps_of m) k (run_state m held)
        ∙ ap (metered_step (run_with_gas (steps_of m)) k) turn
        ∙ ap (λ (n : ℕ). record { events = p.events; end = p.end; left = p.left; begun = n }) (sym (zero-add p.begun))
        ∙ ap (λ (n : ℕ). metered_after [] n p) none

    -- the run has no more steps
    ends : (next : Machine) (e : Exit) → next.gas ≡ k → stepped m ≡ stayed next (last_answer e) → IsRunWith host held m next (last_answer e) → Runs m (all_steps m)
    ends next e left is ran = rw (← steps_end m next e (sym is)) (record { run = ran; less = omega (arith, one_at_most (last_answer e)) })

    -- the instruction comes out so
    moves_by : (next : ℕ) (o : Operation) (x : Outcome ℕ State End) → IsDone o m.state x → steps_of m (run_state m held) ≡ move (rules host) (λ p. p) next (beside held x) → stepped m ≡ after_outcome (record m { gas = k }) next x → Runs m (all_steps m)
    moves_by next o (Next s) done turn is = goes next s turn is
    moves_by next o (Jump target s) done turn is = goes target s turn is
    moves_by next o (Call number s) done turn is = ends (gone_to next s) (exit.Host number) refl is (calls number next s turn)
    moves_by next o (Ends (Halt registers memory)) done turn is = ends (gone_to m.counter (record m.state { registers = registers; memory = memory })) exit.Halt refl is (stops _ turn)
    moves_by next o (Ends (Panic memory)) done turn is = ends (record m { gas = k }) exit.Panic refl is (stops _ turn ∙ ap (λ (kept : Memory). ends_so (Panic kept)) done)
    moves_by next o (Ends (Fault address memory)) done turn is = ends (record m { gas = k }) (exit.Fault address) refl is (stops _ turn ∙ ap (λ (kept : Memory). ends_so (Fault address kept)) done)
    moves_by next o (Ends (Unanswered number memory)) done turn is = absurd done
    moves_by next o (Ends (BadReply line address memory)) done turn is = absurd done

    -- the instruction at the counter is executed
    fetches : (o : Option (Fetched FetchedInstr ℕ)) → instr_at m.code m.counter ≡ o → Runs m (all_steps m)
    fetches None none = ends (record m { gas = k }) exit.Panic refl (begins m k gas ∙ rw none refl) (stops _ (rw none refl))
    fetches (Some f) some = moves_by f.next (operation_of f.instr.instr.op) _ (is_done m.table m.code f.instr m.state) (rw some refl) (begins m k gas ∙ rw some refl)

    runs_more : Runs m (all_steps m)
    runs_more = fetches _ refl

  -- without gas nothing is run
  runs_none : (m : Machine) → m.gas ≡ 0 → Runs m (all_steps m)
  runs_none m none =
      let seen : run_with host held m ≡ record { events = []; end = None; left = m.gas; begun = m.gas - m.gas } = rw none refl in
      rw (← steps_end m m exit.OutOfGas (sym (no_step m none))) (record { run = seen; less = omega arith })

  runs_of : (gas : ℕ) (m : Machine) → m.gas ≡ gas → Runs m (all_steps m)
  runs_of zero m e = runs_none m e
  runs_of (suc k) m e = runs_more k (λ n f. runs_of k n f) m e

  -- a run by steps that go on
  pub record Led (m next : Machine) : Type 0 where
    pub run : run_with host held m ≡ metered_after [] (m.gas - next.gas) (run_with host held next)
    pub less : next.gas ≤ m.gas

  led : (n : ℕ) (m next : Machine) → LeadsTo n m next → Led m next
  led zero m next leads =
      let p : MeteredRun Event End = run_with host held m in
      let count : p.begun ≡ m.gas - m.gas + p.begun = omega arith in
      let LedTo : Machine → Type 0 = λ n. Led m n in
      subst LedTo (sym leads) (record { run = ap (λ (n : ℕ). record { events = p.events; end = p.end; left = p.left; begun = n }) count; less = omega arith })
  led (suc n) m next leads =
      let r : Stepped = stepped m in
      let goes : GoesOn m r.machine = goes_on m leads.0 in
      let later : Led r.machine next = led n r.machine next leads.1 in
      let turn : steps_of m (run_state m held) ≡ Goes [] 0 0 (run_state r.machine held) = rw leads.0 at (turns {Held = Held} host held m (omega (arith, goes.gas))) in
      let less : next.gas ≤ m.gas = omega (arith, goes.gas, later.less) in
      record {
        run = one_more m r.machine next answer.Memory (sym goes.table) (sym goes.code) (one_step m r.machine goes.table goes.code goes.gas turn) goes.gas (omega (arith, later.less)) later.run;
        less = less;
      }

  by_steps : (m next : Machine) (e : Exit) → record { machine = next; answer = last_answer e } ≡ all_steps m → IsRunWith host held m next (last_answer e)
  by_steps m next e is =
      let IsRunTo : Stepped → Type 0 = λ r. IsRunWith host held m r.machine r.answer in
      subst IsRunTo (sym is) (runs_of m.gas m refl).run

  -- the result of the steps of a machine is its run under gas, up to the first call
  pub ran_with : (m next : Machine) (e : Exit) → AreSteps m next (last_answer e) → IsRunWith host held m next (last_answer e)
  ran_with m next exit.Halt is = by_steps m next exit.Halt is
  ran_with m next exit.Panic is = by_steps m next exit.Panic is
  ran_with m next (exit.Fault address) is = by_steps m next (exit.Fault address) is
  ran_with m next exit.OutOfGas is = by_steps m next exit.OutOfGas is
  ran_with m next (exit.Host number) is = by_steps m next (exit.Host number) is
  ran_with m next exit.Memory is = (led is.0.steps m next is.0.leads).run

  -- a step that calls the host costs gas
  pub call_is_paid : (m next : Machine) (number : ℕ) → record { machine = next; answer = answer.Host number } ≡ all_steps m → next.gas + 1 ≤ m.gas
  call_is_paid m next number is =
      let MeteredRun : Stepped → Type 0 = λ r. r.machine.gas + cost r.answer ≤ m.gas in
      subst MeteredRun (sym is) (runs_of m.gas m refl).less

-- the result of the steps of a machine without a host
pub ran : (m next : Machine) (e : Exit) → AreSteps m next (last_answer e) → IsRun m next (last_answer e)
ran m next exit.Halt is = ran_with no_host tt m next exit.Halt is
ran m next exit.Panic is = ran_with no_host tt m next exit.Panic is
ran m next (exit.Fault address) is = ran_with no_host tt m next (exit.Fault address) is
ran m next exit.OutOfGas is = ran_with no_host tt m next exit.OutOfGas is
ran m next (exit.Host number) is =
    let paid_for : next.gas + 1 ≤ m.gas = call_is_paid no_host tt m next number is in
    let count : m.gas - (next.gas + 1) + 1 ≡ m.gas - next.gas = omega (arith, paid_for) in
    ran_with no_host tt m next (exit.Host number) is
    ∙ ap (λ (n : ℕ). record { events = event number next.state ∷ []; end = Some (Unanswered number next.state.memory); left = next.gas; begun = n }) count
ran m next exit.Memory is = ran_with no_host tt m next exit.Memory is

-- The invariant of a loop that repeats steps and answers each call: the run from s0 is the events and instructions up to
-- now, and then the run of the machine from here, with what the host holds now.
module _ {Held : Type 0} (host : Host Held) (gas0 : ℕ) (s0 : At ℕ (World State Held)) (m : Machine) (held : Held) (events : List Event) (begun : ℕ)
    (reached : Reached (machine_step host m.table m.code) gas0 s0 events begun m.gas (run_state m held)) (next : Machine) where
  -- the whole run, and what it is up to a call
  abbrev all_run : MeteredRun Event End
  all_run = run_with_gas (machine_step host m.table m.code) gas0 s0

  abbrev so_far : ℕ
  so_far = begun + (m.gas - (next.gas + 1))

  -- the run ends without another call
  pub ended_here : (end : Option End) → run_with host held m ≡ record { events = []; end = end; left = next.gas; begun = m.gas - next.gas }
      → all_run ≡ record { events = events; end = end; left = next.gas; begun = begun + (m.gas - next.gas) }
  ended_here end last =
      reached ∙ ap (metered_after events begun) last
      ∙ ap (λ (l : List Event). record { events = l; end = end; left = next.gas; begun = begun + (m.gas - next.gas) }) (append-nil events)

  module _ (number : ℕ) (is : record { machine = next; answer = answer.Host number } ≡ all_steps m) where
    abbrev seen : Event
    seen = event number next.state

    abbrev asked : Answer Held
    asked = host number (record { state = next.state; held = held })

    pub to_call : all_run ≡ metered_after events so_far (metered_step (run_with_gas (machine_step host m.table m.code)) next.gas (placed next.counter (called seen asked)))
    to_call =
        let call : run_with host held m ≡ metered_after [] (m.gas - (next.gas + 1)) (metered_step (run_with_gas (machine_step host m.table m.code)) next.gas (placed next.counter (called seen asked))) = ran_with host held m next (exit.Host number) is in
        reached ∙ ap (metered_after events begun) call ∙ metered_after_twice events [] begun (m.gas - (next.gas + 1)) _
        ∙ ap (λ l. metered_after l so_far (metered_step (run_with_gas (machine_step host m.table m.code)) next.gas (placed next.counter (called seen asked)))) (append-nil events)

    -- the call is answered, within the gas: the loop goes on from the machine after the step, in the world of the answer
    pub answered_on : (spent rest : ℕ) (w : World State Held) → asked ≡ Answered spent rest w → spent + rest ≤ next.gas
        → Reached (machine_step host m.table m.code) gas0 s0 (events ++ seen ∷ []) (so_far + (1 + spent)) (next.gas - spent) (record { at = next.counter; of = w })
    answered_on spent rest w e le =
        to_call
        ∙ ap (λ a. metered_after events so_far (metered_step (run_with_gas (machine_step host m.table m.code)) next.gas (placed next.counter (called seen a)))) e
        ∙ ap (λ b. metered_after events so_far (go_if b (run_with_gas (machine_step host m.table m.code)) next.gas (seen ∷ []) spent (record { at = next.counter; of = w }))) (le-leb (spent + rest) next.gas le)
        ∙ metered_after_twice events (seen ∷ []) so_far (1 + spent) _

    -- an inner machine asks for more gas than is left: the run ends for want of gas
    pub short_of_gas : (spent rest : ℕ) (w : World State Held) → asked ≡ Answered spent rest w → next.gas < spent + rest
        → all_run ≡ record { events = events ++ seen ∷ []; end = None; left = next.gas; begun = so_far + 1 }
    short_of_gas spent rest w e lt =
        to_call
        ∙ ap (λ a. metered_after events so_far (metered_step (run_with_gas (machine_step host m.table m.code)) next.gas (placed next.counter (called seen a)))) e
        ∙ ap (λ b. metered_after events so_far (go_if b (run_with_gas (machine_step host m.table m.code)) next.gas (seen ∷ []) spent (record { at = next.counter; of = w }))) (lt-leb (spent + rest) next.gas lt)

    -- the host ends the run
    pub ended_by : (end : End) → asked ≡ Ended end → all_run ≡ record { events = events ++ seen ∷ []; end = Some end; left = next.gas; begun = so_far + 1 }
    ended_by end e = to_call ∙ ap (λ a. metered_after events so_far (metered_step (run_with_gas (machine_step host m.table m.code)) next.gas (placed next.counter (called seen a)))) e

    -- whatever the answer is, the call is the next event
    call_first : (a : Answer Held) → (more : List Event) × ((metered_step (run_with_gas (machine_step host m.table m.code)) next.gas (placed next.counter (called seen a))).events ≡ seen ∷ more)
    call_first (Ended end) = ([], refl)
    call_first (Answered spent rest w) = by_test (nat_le (spent + rest) next.gas)
      where
        by_test : (b : Bool) → (more : List Event) × ((go_if b (run_with_gas (machine_step host m.table m.code)) next.gas (seen ∷ []) spent (record { at = next.counter; of = w })).events ≡ seen ∷ more)
        by_test true = ((run_with_gas (machine_step host m.table m.code) (next.gas - spent) (record { at = next.counter; of = w })).events, refl)
        by_test false = ([], refl)

    pub seen_next : (more : List Event) × (all_run.events ≡ events ++ seen ∷ more)
    seen_next =
        let first = call_first asked in
        (first.0, ap (λ (r : MeteredRun Event End). r.events) to_call ∙ ap (λ l. events ++ l) first.1)
