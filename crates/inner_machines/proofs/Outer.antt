-- What a call keeps of the machine that calls.
use Rattle.std.proofs.Common.{◌≡◌, ◌≢◌, ℕ, ◌+◌, ◌^◌, ◌<◌, ◌≤◌, true, List, ◌∷◌, length, refl, ap, sym, ◌∙◌, subst, arith}
use Rattle.std.specs.Prelude.{slice_index}
use Rattle.std.proofs.lemmas.List.{get_or-set_other}
use Rattle.machine_state.specs.Memory.{Memory}
use Rattle.machine_state.specs.State.{State, register, with_memory}
use Rattle.page_memory.specs.Access.{touched, with_bytes}
use Rattle.page_memory.specs.Laws.{StoresKeepPages, RangesEnd}
use Rattle.page_memory.specs.Ranges.{range_allows}
use Rattle.page_memory.proofs.Steps.{length-touched}
use Rattle.pvm_machine.specs.Stepped.{Stepped}
use Rattle.pvm_machine.specs.declared.answers.Step.{Step}
use Rattle.pvm_machine.specs.declared.answers.Step.TheVariants as step
use Rattle.inner_machines.specs.Inner.{Inner, Inners}
use Rattle.inner_machines.specs.Calls.{answers, ran, word_at, words_at, with_words, worked, reported_by, ok}
use Rattle.inner_machines.specs.Laws.{BytesStay, written_by, KeepsOuter, OuterStays}
use Rattle.inner_machines.proofs.Cases.{each_call}
use Rattle.inner_machines.proofs.Free.{length-words}
use Rattle.inner_machines.proofs.Working.{inner_works}
use Rattle.inner_machines.proofs.Written.{bytes_stay, words_stay}

same_bytes : (at len : ℕ) (m : Memory) → BytesStay at len m m
same_bytes at len m = record { modes = λ _ _. refl; bytes = λ _ _. refl }

told_keeps : (registers : List ℕ) (how : Step) (at : ℕ) → at ≢ 7 → at ≢ 8 → slice_index (reported_by registers how) at ≡ slice_index registers at
told_keeps registers step.Halt at seven eight = get_or-set_other registers 7 at 0 0 seven
told_keeps registers step.Panic at seven eight = get_or-set_other registers 7 at 1 0 seven
told_keeps registers (step.Fault address) at seven eight = get_or-set_other _ 8 at address 0 eight ∙ get_or-set_other registers 7 at 2 0 seven
told_keeps registers (step.Host number) at seven eight = get_or-set_other _ 8 at number 0 eight ∙ get_or-set_other registers 7 at 3 0 seven
told_keeps registers step.OutOfGas at seven eight = get_or-set_other registers 7 at 4 0 seven
told_keeps registers step.Next at seven eight = refl
told_keeps registers step.Memory at seven eight = refl

module _ (number : ℕ) (s : State) (inners : Inners) where
  done_with : (result : ℕ) (memory : Memory) (after : Inners) → BytesStay (register s 8) (written_by number s) s.memory memory → KeepsOuter number s (answers result (with_memory s memory) after)
  done_with result memory after stays = (
    record {
      registers = λ at seven eight. get_or-set_other s.registers 7 at result 0 seven;
      eighth = λ _. get_or-set_other s.registers 7 8 result 0 (omega arith);
      memory = stays;
      heap_top = refl;
      heap_bound = refl;
    },
    λ _. (refl, refl),
  )

  done : (result : ℕ) (after : Inners) → KeepsOuter number s (answers result s after)
  done result after = done_with result s.memory after (same_bytes (register s 8) (written_by number s) s.memory)

  -- `peek` writes its range
  peeks : RangesEnd → number ≡ 9 → (inner : Inner) → range_allows s.memory true (register s 8) (register s 10) ≡ true
      → KeepsOuter number s (answers ok (with_memory s (with_bytes s.memory (register s 8) (touched inner.memory (register s 9) (register s 10)))) inners)
  peeks ends nine inner allows =
      let bytes : List ℕ = touched inner.memory (register s 9) (register s 10) in
      let long : length bytes ≡ register s 10 = length-touched (register s 10) (register s 9) inner.memory in
      let whole : length bytes ≡ written_by number s = long ∙ sym (ap (λ (n : ℕ). written_by n s) nine) in
      let within : 0 < length bytes → register s 8 + length bytes ≤ 2 ^ 32 = λ some. omega (arith, long, ends s.memory true (register s 8) (register s 10) (omega (arith, some, long)) allows) in
      let Writes : ℕ → Type 0 = λ len. BytesStay (register s 8) len s.memory (with_bytes s.memory (register s 8) bytes) in
      done_with ok _ inners (subst Writes whole (bytes_stay s.memory (register s 8) bytes within))

  -- `invoke` writes the gas and thirteen registers
  invokes : StoresKeepPages → RangesEnd → number ≡ 12 → (inner : Inner) → range_allows s.memory true (register s 8) 112 ≡ true
      → KeepsOuter number s (ran s inners inner (word_at s.memory (register s 8)) (worked inner (words_at s.memory (register s 8 + 8) 13) (word_at s.memory (register s 8))))
  invokes keep ends twelve inner allows =
      let r : Stepped = worked inner (words_at s.memory (register s 8 + 8) 13) (word_at s.memory (register s 8)) in
      let thirteen : length r.machine.state.registers ≡ 13 = (inner_works keep inner (words_at s.memory (register s 8 + 8) 13) (word_at s.memory (register s 8))).registers ∙ length-words 13 (register s 8 + 8) s.memory in
      let within : register s 8 + 112 ≤ 2 ^ 32 = ends s.memory true (register s 8) 112 (omega arith) allows in
      let words : List ℕ = r.machine.gas ∷ r.machine.state.registers in
      let Writes : ℕ → Type 0 = λ len. BytesStay (register s 8) len s.memory (with_words s.memory (register s 8) words) in (
        record {
          registers = told_keeps s.registers r.answer;
          eighth = λ other. absurd (other twelve);
          memory = subst Writes (sym (ap (λ (n : ℕ). written_by n s) twelve)) (words_stay s.memory (register s 8) 112 words (omega (arith, thirteen)) within);
          heap_top = refl;
          heap_bound = refl;
        },
        λ other. absurd (other twelve),
      )

pub outer_stays : StoresKeepPages → RangesEnd → OuterStays
outer_stays keep ends number w =
    let s : State = w.state in
    let inners : Inners = w.held in
    each_call (KeepsOuter number s) s inners number (record {
      ends = tt;
      stays = λ result word. done number s inners result inners;
      makes = λ eight bytes n least allowed. done number s inners n _;
      peeks = λ nine inner named allows. peeks number s inners ends nine inner allows;
      pokes = λ ten inner named. done number s inners ok _;
      changes = λ eleven inner named room. done number s inners ok _;
      invokes = λ twelve inner named allows. invokes number s inners keep ends twelve inner allows;
      expunges = λ eight nine inner named. done number s inners inner.counter _;
    })
