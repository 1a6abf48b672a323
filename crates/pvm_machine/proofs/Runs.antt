-- Steps and repeated steps: the last of them, and those that go on before it.
use Rattle.std.proofs.Common.{◌≡◌, ℕ, zero, suc, ◌+◌, refl, ap, sym, ◌∙◌, subst, arith}
use Rattle.pvm_machine.specs.Machine.{Machine}
use Rattle.pvm_machine.specs.Stepped.{Stepped, stayed, stepped, go_on, repeated, all_steps, IsStep, MapsPages, LeadsTo, Reached, AreSteps, Keeps}
use Rattle.pvm_machine.specs.Ran.{last_answer}
use Rattle.pvm_machine.specs.declared.answers.Step.TheVariants as answer
use Rattle.pvm_machine.specs.declared.answers.Exit.{Exit}
use Rattle.pvm_machine.specs.declared.answers.Exit.TheVariants as exit

-- a step that goes on leads to the rest of the steps
pub steps_on : (m next : Machine) → record { machine = next; answer = answer.Next } ≡ stepped m → m.gas ≡ next.gas + 1 → all_steps m ≡ all_steps next
unfolding repeated
steps_on m next is gas =
    let fuel : m.gas ≡ suc next.gas = omega arith in
    let with : ℕ → Stepped = λ gas. repeated gas m in
    ap with fuel ∙ rw (← is) refl

-- no step comes after one that does not go on
stays : (more : Machine → Stepped) (m : Machine) (e : Exit) → go_on more m (last_answer e) ≡ stayed m (last_answer e)
stays more m exit.Halt = refl
stays more m exit.Panic = refl
stays more m (exit.Fault address) = refl
stays more m exit.OutOfGas = refl
stays more m (exit.Host number) = refl
stays more m exit.Memory = refl

-- so it is the last
pub steps_end : (m next : Machine) (e : Exit) → record { machine = next; answer = last_answer e } ≡ stepped m → record { machine = next; answer = last_answer e } ≡ all_steps m
unfolding repeated
steps_end m next e is = by_gas m.gas
  where
    by_gas : (gas : ℕ) → record { machine = next; answer = last_answer e } ≡ repeated gas m
    by_gas zero = is
    by_gas (suc gas) = rw (← is) (sym (stays (repeated gas) next e))

-- a step that does not go on is the last of the steps that led to it
pub last_step : (first m next : Machine) (e : Exit) → all_steps m ≡ all_steps first → Reached first m → IsStep m next (last_answer e) → AreSteps first next (last_answer e)
last_step first m next exit.Halt same reached is = steps_end m next exit.Halt is ∙ same
last_step first m next exit.Panic same reached is = steps_end m next exit.Panic is ∙ same
last_step first m next (exit.Fault address) same reached is = steps_end m next (exit.Fault address) is ∙ same
last_step first m next exit.OutOfGas same reached is = steps_end m next exit.OutOfGas is ∙ same
last_step first m next (exit.Host number) same reached is = steps_end m next (exit.Host number) is ∙ same
last_step first m next exit.Memory same reached is =
    let Stops : Machine → Type 0 = λ n. Reached first n × MapsPages n in
    subst Stops (sym is.0) (reached, is.1)

leads_on : (n : ℕ) (first m next : Machine) → LeadsTo n first m → record { machine = next; answer = answer.Next } ≡ stepped m → LeadsTo (suc n) first next
leads_on zero first m next leads is =
    let whole : record { machine = next; answer = answer.Next } ≡ stepped first = is ∙ ap stepped leads in
    (sym (ap (λ (r : Stepped). r.answer) whole), ap (λ (r : Stepped). r.machine) whole)
leads_on (suc n) first m next leads is = (leads.0, leads_on n (stepped first).machine m next leads.1 is)

-- a step more
pub reached_next : (first m next : Machine) → Reached first m → record { machine = next; answer = answer.Next } ≡ stepped m → Reached first next
reached_next first m next reached is = record { steps = suc reached.steps; leads = leads_on reached.steps first m next reached.leads is }

-- what is kept twice is kept
pub keeps_on : (first second third : Machine) → Keeps first second → Keeps second third → Keeps first third
keeps_on first second third h h' = record {
  table = h'.table ∙ h.table;
  code = h'.code ∙ h.code;
  registers = h'.registers ∙ h.registers;
  heap_bound = h'.heap_bound ∙ h.heap_bound;
  frame_limit = h'.frame_limit ∙ h.frame_limit;
  heap_top = omega (arith, h.heap_top, h'.heap_top);
  gas = omega (arith, h.gas, h'.gas);
  within = λ few. h'.within (h.within few);
  frames = λ none. h'.frames (h.heap_bound ∙ none) ∙ h.frames none;
  heap_end = λ none. h'.heap_end (h.heap_bound ∙ none) ∙ h.heap_end none;
}
