-- An inner machine that works keeps the number of its pages and registers, and spends of the gas that it was given.
use Rattle.std.proofs.Common.{◌≡◌, ◌≢◌, ℕ, zero, suc, ◌≤◌, List, length, Option, Some, None, refl, sym, ◌∙◌, subst, arith}
use Rattle.std.specs.FinMap as map
use Rattle.runs.specs.Machine.{Outcome, Next, Jump, Call, Ends}
use Rattle.runs.specs.Lockstep.{Fetched}
use Rattle.machine_state.specs.State.{State}
use Rattle.machine_state.specs.Ends.{End, Halt, Panic, Fault, Unanswered, BadReply}
use Rattle.page_memory.specs.Laws.{StoresKeepPages}
use Rattle.blob_codec.specs.Reading.{program_of}
use Rattle.pvm_machine.specs.Machine.{Machine}
use Rattle.pvm_machine.specs.Step.{FetchedInstr, does_at, instr_at}
use Rattle.pvm_machine.specs.Stepped.{Stepped, after_outcome, begun, stepped, go_on, repeated, Keeps}
use Rattle.pvm_machine.specs.declared.answers.Step.{Step}
use Rattle.pvm_machine.specs.declared.answers.Step.TheVariants as answer
use Rattle.pvm_machine.proofs.Steps.{begins, no_step}
use Rattle.pvm_machine.proofs.Kept.{step_keeps}
use Rattle.inner_machines.specs.Inner.{Inner}
use Rattle.inner_machines.specs.Calls.{or_empty, at_work, worked}

-- no step that is defined answers that an allocation failed
after_outcome_not : (m : Machine) (next : ℕ) (x : Outcome ℕ State End) → (after_outcome m next x).answer ≢ answer.Memory
after_outcome_not m next (Next s) = λ e. cc
after_outcome_not m next (Jump target s) = λ e. cc
after_outcome_not m next (Call number s) = λ e. cc
after_outcome_not m next (Ends (Halt registers memory)) = λ e. cc
after_outcome_not m next (Ends (Panic memory)) = λ e. cc
after_outcome_not m next (Ends (Fault address memory)) = λ e. cc
after_outcome_not m next (Ends (Unanswered number memory)) = λ e. cc
after_outcome_not m next (Ends (BadReply line address memory)) = λ e. cc

begun_not : (m : Machine) (o : Option (Fetched FetchedInstr ℕ)) → (begun m o).answer ≢ answer.Memory
begun_not m None = λ e. cc
begun_not m (Some f) = after_outcome_not m f.next (does_at m.table m.code f.instr m.state)

abbrev IsReported : Stepped → Type 0
IsReported r = r.answer ≢ answer.Memory

stepped_not : (m : Machine) → IsReported (stepped m)
stepped_not m = by_gas m.gas refl
  where
    by_gas : (gas : ℕ) → m.gas ≡ gas → IsReported (stepped m)
    by_gas zero none = subst IsReported (sym (no_step m none)) (λ e. cc)
    by_gas (suc k) some = subst IsReported (sym (begins m k some)) (begun_not (record m { gas = k }) (instr_at m.code m.counter))

module _ (keep : StoresKeepPages) where
  as_reported : (m : Machine) (how : Step) → (stepped m).answer ≡ how → record { machine = (stepped m).machine; answer = how } ≡ stepped m
  as_reported m how e = λ i. record { machine = (stepped m).machine; answer = sym e i }

  stepped_keeps : (m : Machine) → Keeps m (stepped m).machine
  stepped_keeps m = by_answer (stepped m).answer refl
    where
      by_answer : (how : Step) → (stepped m).answer ≡ how → Keeps m (stepped m).machine
      by_answer answer.Next e = step_keeps keep m _ answer.Next (as_reported m answer.Next e)
      by_answer answer.Halt e = step_keeps keep m _ answer.Halt (as_reported m answer.Halt e)
      by_answer answer.Panic e = step_keeps keep m _ answer.Panic (as_reported m answer.Panic e)
      by_answer (answer.Fault address) e = step_keeps keep m _ (answer.Fault address) (as_reported m (answer.Fault address) e)
      by_answer answer.OutOfGas e = step_keeps keep m _ answer.OutOfGas (as_reported m answer.OutOfGas e)
      by_answer (answer.Host number) e = step_keeps keep m _ (answer.Host number) (as_reported m (answer.Host number) e)
      by_answer answer.Memory e = absurd (stepped_not m e)

  -- what steps without a heap keep
  pub record Works (m n : Machine) : Type 0 where
    pub gas : n.gas ≤ m.gas
    pub registers : length n.state.registers ≡ length m.state.registers
    pub pages : map.len n.state.memory ≡ map.len m.state.memory
    pub heap : n.state.heap_bound ≡ 0

  one_works : (m : Machine) → m.state.heap_bound ≡ 0 → Works m (stepped m).machine
  one_works m none = let k = stepped_keeps m in record { gas = k.gas; registers = k.registers; pages = k.frames none; heap = k.heap_bound ∙ none }

  none_works : (m : Machine) → m.state.heap_bound ≡ 0 → Works m m
  none_works m none = record { gas = omega arith; registers = refl; pages = refl; heap = none }

  then_works : (m n l : Machine) → Works m n → Works n l → Works m l
  then_works m n l first more = record { gas = omega (arith, first.gas, more.gas); registers = more.registers ∙ first.registers; pages = more.pages ∙ first.pages; heap = more.heap }

  -- more steps, where the first goes on
  goes_on : (more : Machine → Stepped) (m : Machine) → m.state.heap_bound ≡ 0 → Works m (more m).machine → (how : Step) → Works m (go_on more m how).machine
  goes_on more m none rest answer.Next = rest
  goes_on more m none rest answer.Halt = none_works m none
  goes_on more m none rest answer.Panic = none_works m none
  goes_on more m none rest (answer.Fault address) = none_works m none
  goes_on more m none rest answer.OutOfGas = none_works m none
  goes_on more m none rest (answer.Host number) = none_works m none
  goes_on more m none rest answer.Memory = none_works m none

  many_work : (n : ℕ) (m : Machine) → m.state.heap_bound ≡ 0 → Works m (repeated n m).machine
  unfolding repeated
  many_work zero m none = one_works m none
  many_work (suc n) m none = let first = one_works m none in then_works m _ _ first (goes_on (repeated n) (stepped m).machine first.heap (many_work n (stepped m).machine first.heap) (stepped m).answer)

  pub inner_works : (inner : Inner) (registers : List ℕ) (gas : ℕ) → Works (at_work (or_empty (program_of inner.program)) inner registers gas) (worked inner registers gas).machine
  unfolding worked
  inner_works inner registers gas = many_work gas (at_work (or_empty (program_of inner.program)) inner registers gas) refl
