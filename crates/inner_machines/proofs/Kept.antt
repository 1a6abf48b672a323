-- The calls on inner machines keep the rules of hosts.
use Rattle.std.proofs.Common.{◌≡◌, ℕ, ◌+◌, ◌<◌, ◌≤◌, List, length, refl, ap, sym, ◌∙◌, subst, arith, inl, inr}
use Rattle.std.specs.Prelude.{Option, Some, None, Result, Ok, Err, ◌^◌}
use Rattle.std.specs.FinMap as map
use Rattle.std.proofs.lemmas.Bool.{cases_eq}
use Rattle.machine_state.specs.Memory.{Memory, no_memory}
use Rattle.machine_state.specs.State.{State, register, with_register, with_memory, IsState}
use Rattle.machine_state.specs.Ends.{Answer}
use Rattle.machine_state.specs.Hosts.{IsWorld, GoodAnswer}
use Rattle.machine_state.proofs.Registers.{registers_stay, memory_stays, register_fits}
use Rattle.page_memory.specs.Access.{touched, with_bytes}
use Rattle.blob_codec.specs.declared.fault.BlobFault.{BlobFault}
use Rattle.blob_codec.specs.Grammar.{Program}
use Rattle.blob_codec.specs.Reading.{program_of}
use Rattle.pvm_machine.specs.Machine.{Machine}
use Rattle.pvm_machine.specs.Stepped.{Stepped}
use Rattle.pvm_machine.specs.Within.{NamesWord, IsWithin, StepsStayWithin}
use Rattle.pvm_machine.specs.declared.answers.Step.{Step}
use Rattle.pvm_machine.specs.declared.answers.Step.TheVariants as step
use Rattle.page_memory.proofs.Counted.{len-with_bytes}
use Rattle.page_memory.proofs.Views.{no_frames}
use Rattle.inner_machines.specs.Inner.{Inner, Inners, most_machines, most_program_bytes, most_frames, frames, program_bytes, least_free}
use Rattle.inner_machines.specs.Calls.{answers, new_inner, page_after, change_pages, with_changed_pages, word_at, words_at, or_empty, at_work, worked, reported_by, ran, nest_call, ok}
use Rattle.inner_machines.specs.Views.{with_slot}
use Rattle.inner_machines.specs.CallRules.{IsInner, InnersFit, CallsAnswerWell, IsOrPanics, CallsPanic}
use Rattle.inner_machines.proofs.Cases.{each_call}
use Rattle.inner_machines.proofs.Gaps.{get_here, get_other, same_some}
use Rattle.inner_machines.proofs.Counted.{pages_in, no_more, at_least}
use Rattle.inner_machines.proofs.Least.{least_free_is}
use Rattle.inner_machines.proofs.Programs.{code_within}

-- each is one, and together they have no more pages than a run may have
record AreInners (inners : Inners) : Type 0 where
  pub each : (number : ℕ) (inner : Inner) → map.get inners number ≡ Some inner → IsInner inner
  pub few : frames inners ≤ most_frames

-- each stays an inner machine where the changed one is
each_stays : (inners : Inners) (k : ℕ) (slot : Option Inner) → AreInners inners → ((inner : Inner) → slot ≡ Some inner → IsInner inner) → (q : ℕ) (inner : Inner) → map.get (with_slot inners k slot) q ≡ Some inner → IsInner inner
each_stays inners k slot are new q inner got = elim (cases_eq q k) [
  | inl same ↦ new inner (sym (get_here inners k slot) ∙ ap (map.get (with_slot inners k slot)) (sym same) ∙ got)
  | inr other ↦ are.each q inner (sym (get_other inners k slot q other) ∙ got)
]

-- the machines with one changed, which brings no page
slot_stays : (inners : Inners) (k : ℕ) (slot : Option Inner) → AreInners inners → ((inner : Inner) → slot ≡ Some inner → IsInner inner) → pages_in slot ≤ pages_in (map.get inners k) → AreInners (with_slot inners k slot)
slot_stays inners k slot are new few = record { each = each_stays inners k slot are new; few = omega (arith, no_more inners k slot few, are.few) }

one_stays : (inners : Inners) (k : ℕ) (old new : Inner) → AreInners inners → map.get inners k ≡ Some old → IsInner new → map.len new.memory ≤ map.len old.memory → AreInners (map.insert inners k new)
one_stays inners k old new are got is few =
    slot_stays inners k (Some new) are (λ inner e. subst IsInner (same_some new inner e) is) (at_least inners k old _ got few)

module _ (within : StepsStayWithin) (s : State) (is : IsState s) (inners : Inners) (are : AreInners inners) where
  abbrev Good : Answer Inners → Type 0
  Good a = GoodAnswer (IsWorld (InnersFit s.heap_bound)) a

  -- a call is done, with a result that is a word
  done_good : (result : ℕ) (t : State) (after : Inners) → IsState t → t.heap_bound ≡ s.heap_bound → result < 2 ^ 64 → AreInners after → Good (answers result t after)
  done_good result t after is_t heap word good =
      let set = registers_stay t 7 result is_t word in
      record {
        good_state = record { registers = set.registers; heap_top = set.heap_top; heap_bound = set.heap_bound };
        held_fits = record { shares = record { heap = heap; shared = omega (arith, good.few) }; each = good.each };
      }

  same_good : (result : ℕ) → result < 2 ^ 64 → Good (answers result s inners)
  same_good result word = done_good result s inners is refl word are

  -- a machine with another memory of as many pages, or fewer
  memory_good : (inner : Inner) (memory : Memory) → map.get inners (register s 7) ≡ Some inner → map.len memory ≤ map.len inner.memory → AreInners (map.insert inners (register s 7) (record inner { memory = memory }))
  memory_good inner memory got few = one_stays inners (register s 7) inner (record inner { memory = memory }) are got (let old = are.each (register s 7) inner got in record { program = old.program; counter = old.counter }) few

  -- a new machine has no page, and its number is free
  made_good : (bytes : List ℕ) (n : ℕ) → least_free inners ≡ Some n → program_bytes inners + length bytes ≤ most_program_bytes → Good (answers n s (map.insert inners n (new_inner bytes (register s 9))))
  made_good bytes n least allowed =
      let new : Inner = new_inner bytes (register s 9) in
      let none : map.len no_memory ≡ 0 = sym no_frames in
      let no_pages : pages_in (Some new) ≤ pages_in (map.get inners n) = omega (arith, none) in
      let below : n < most_machines = (least_free_is inners n (sym least)).below in
      done_good n s (map.insert inners n new) is refl (omega (arith, below))
      (slot_stays inners n (Some new) are (λ inner e. subst IsInner (same_some new inner e) (record { program = omega (arith, allowed); counter = register_fits s 9 is })) no_pages)

  -- pages are changed where all have room
  changed_good : (how first count : ℕ) (inner : Inner) → map.get inners (register s 7) ≡ Some inner → frames (with_changed_pages how first count inners (register s 7) inner) ≤ most_frames
      → Good (answers ok s (with_changed_pages how first count inners (register s 7) inner))
  changed_good how first count inner got few =
      done_good ok s (with_changed_pages how first count inners (register s 7) inner) is refl (omega arith)
      (record {
        each = each_stays inners (register s 7) (Some (record inner { memory = change_pages (page_after how) count first inner.memory })) are (λ new e. subst IsInner (same_some _ new e) (let old = are.each (register s 7) inner got in record { program = old.program; counter = old.counter }));
        few = few;
      })

  -- the code of an inner machine
  few_bytes : (bytes : List ℕ) (r : Result Program BlobFault) → program_of bytes ≡ r → length bytes ≤ most_program_bytes → length (or_empty r).code.bytes ≤ 2 ^ 32
  few_bytes bytes (Ok p) spelled few = omega (arith, code_within bytes p spelled, few)
  few_bytes bytes (Err fault) spelled few = omega arith

  work_within : (inner : Inner) (registers : List ℕ) (gas : ℕ) → IsInner inner → IsWithin (at_work (or_empty (program_of inner.program)) inner registers gas) (worked inner registers gas)
  unfolding worked
  work_within inner registers gas is_inner = within (at_work (or_empty (program_of inner.program)) inner registers gas) refl is_inner.counter (few_bytes inner.program (program_of inner.program) refl is_inner.program)

  -- how it stopped is reported in two registers
  set_good : (t : State) (at word : ℕ) → IsState t → word < 2 ^ 64 → IsState (with_register t at word)
  set_good t at word is_t small = registers_stay t at word is_t small

  reported_good : (how : Step) → NamesWord how → IsState (record s { registers = reported_by s.registers how })
  reported_good step.Halt names = set_good s 7 0 is (omega arith)
  reported_good step.Panic names = set_good s 7 1 is (omega arith)
  reported_good (step.Fault address) names = set_good (with_register s 7 2) 8 address (set_good s 7 2 is (omega arith)) names
  reported_good (step.Host number) names = set_good (with_register s 7 3) 8 number (set_good s 7 3 is (omega arith)) names
  reported_good step.OutOfGas names = set_good s 7 4 is (omega arith)
  reported_good step.Next names = is
  reported_good step.Memory names = is

  ran_good : (inner : Inner) (gas : ℕ) (r : Stepped) (m : Machine) → map.get inners (register s 7) ≡ Some inner → m.state.memory ≡ inner.memory → IsWithin m r → Good (ran s inners inner gas r)
  ran_good inner gas r m got same w =
      let reported = reported_good r.answer w.names in
      let pages : map.len r.machine.state.memory ≡ map.len inner.memory = w.pages ∙ ap map.len same in
      let after = one_stays inners (register s 7) inner (record inner { memory = r.machine.state.memory; counter = r.machine.counter }) are got (record { program = (are.each (register s 7) inner got).program; counter = w.counter }) (omega (arith, pages)) in
      record {
        good_state = record { registers = reported.registers; heap_top = reported.heap_top; heap_bound = reported.heap_bound };
        held_fits = record { shares = record { heap = refl; shared = omega (arith, after.few) }; each = after.each };
      }

  call_good : (number : ℕ) → Good (nest_call number (record { state = s; held = inners }))
  call_good number =
      let n : ℕ = register s 7 in
      each_call Good s inners number (record {
        ends = tt;
        stays = λ result word. same_good result word;
        makes = λ eight bytes k least allowed. made_good bytes k least allowed;
        peeks = λ nine inner named allows. done_good ok (with_memory s (with_bytes s.memory (register s 8) (touched inner.memory (register s 9) (register s 10)))) inners (memory_stays s _ is) refl (omega arith) are;
        pokes = λ ten inner named.
            let bytes : List ℕ = touched s.memory (register s 8) (register s 10) in
            done_good ok s _ is refl (omega arith) (memory_good inner (with_bytes inner.memory (register s 9) bytes) named (omega (arith, len-with_bytes bytes inner.memory (register s 9))));
        changes = λ eleven inner named room. changed_good (register s 10) (register s 8) (register s 9) inner named (omega (arith, room 0 (omega arith) (omega (arith, are.few))));
        invokes = λ twelve inner named allows.
            let gas : ℕ = word_at s.memory (register s 8) in
            let registers : List ℕ = words_at s.memory (register s 8 + 8) 13 in
            ran_good inner gas (worked inner registers gas) (at_work (or_empty (program_of inner.program)) inner registers gas) named refl (work_within inner registers gas (are.each n inner named));
        expunges = λ eight nine inner named.
            done_good inner.counter s (map.remove inners n) is refl (are.each n inner named).counter (slot_stays inners n None are (λ new e. absurd cc) (omega arith));
      })

pub calls_answer_well : StepsStayWithin → CallsAnswerWell
calls_answer_well within heap_bound number w good =
    let fits = good.held_fits in
    let IsGood : ℕ → Type 0 = λ bound. GoodAnswer (IsWorld (InnersFit bound)) (nest_call number w) in
    let are : AreInners w.held = record { each = fits.each; few = omega (arith, fits.shares.shared) } in
    subst IsGood fits.shares.heap (call_good within w.state good.good_state w.held are number)

-- a call that ends the run panics
pub calls_panic : CallsPanic
calls_panic number w =
    each_call (IsOrPanics w.state) w.state w.held number (record {
      ends = refl;
      stays = λ result word. tt;
      makes = λ eight bytes n least allowed. tt;
      peeks = λ nine inner named allows. tt;
      pokes = λ ten inner named. tt;
      changes = λ eleven inner named room. tt;
      invokes = λ twelve inner named allows. tt;
      expunges = λ eight nine inner named. tt;
    })
