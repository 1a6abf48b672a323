-- What no step changes, from what instructions come out as.
use Rattle.std.proofs.Common.{◌≡◌, ◌≢◌, ℕ, zero, suc, ◌+◌, ◌≤◌, Bool, true, false, List, length, Option, Some, None, Result, Ok, Err, refl, ap, sym, ◌∙◌, subst, arith, inl, inr, nat_eq}
use Rattle.std.specs.Prelude.{◌<◌, if◌then◌else◌, ◌%◌, ◌^◌, nat_le}
use Rattle.std.specs.FinMap as map
use Rattle.std.proofs.Math.ListN.{length-set}
use Rattle.std.proofs.lemmas.Bool.{leb-true, and_parts}
use Rattle.std.proofs.lemmas.Bool.Decides.{nat_tests}
use Rattle.numbers.specs.Bytes.{little}
use Rattle.numbers.specs.Words.{sum_64}
use Rattle.runs.specs.Machine.{Outcome, Next, Jump, Call, Ends}
use Rattle.runs.specs.Lockstep.{Fetched}
use Rattle.runs.specs.Numbers.{halt_address, named, to_named, jump_by}
use Rattle.machine_state.specs.Memory.{Memory}
use Rattle.machine_state.specs.State.{State, register, with_register, with_memory}
use Rattle.machine_state.specs.Start.{pages_of}
use Rattle.machine_state.specs.Heap.{with_heap, may_end_at, with_top, sbrk}
use Rattle.machine_state.specs.Ends.{End, Halt, Panic, Fault, Unanswered, BadReply, halt, panic}
use Rattle.page_memory.specs.Laws.{StoresKeepPages}
use Rattle.page_memory.specs.Access.{Access, Low, Fault as PageFault, load, least_refused, store, store_answer}
use Rattle.page_memory.specs.Outcomes.{refused, loaded_by, loads, stored_by, stores}
use Rattle.pvm_ops.specs.Listing.{Listing}
use Rattle.pvm_ops.specs.declared.instr.Instr.{Instr}
use Rattle.pvm_ops.specs.Opcodes.{form_of}
use Rattle.pvm_ops.specs.Offsets.{offset_of}
use Rattle.blob_check.specs.Starts.{is_start}
use Rattle.arithmetic.specs.Operations.{holds}
use Rattle.pvm_machine.specs.declared.operation.Operation.{Operation}
use Rattle.pvm_machine.specs.declared.operation.Operation.TheVariants as op
use Rattle.pvm_machine.specs.Operations.{operation_of}
use Rattle.pvm_machine.specs.Effect.{bytes_of, has_sign, does, effect}
use Rattle.pvm_machine.specs.Machine.{Machine, HeapFits}
use Rattle.pvm_machine.specs.Step.{FetchedInstr, land, does_at, instr_at}
use Rattle.pvm_machine.specs.Stepped.{Stepped, after_outcome, begun, stepped, IsStep, MapsPages, AreSteps, Keeps}
use Rattle.pvm_machine.specs.Ran.{last_answer}
use Rattle.pvm_machine.specs.declared.answers.Step.{Step}
use Rattle.pvm_machine.specs.declared.answers.Step.TheVariants as answer
use Rattle.pvm_machine.specs.declared.answers.Exit.{Exit}
use Rattle.pvm_machine.specs.declared.answers.Exit.TheVariants as exit
use Rattle.pvm_machine.proofs.Steps.{begins, no_step}

-- what no instruction changes of a state
record KeepsState (old new : State) : Type 0 where
  registers : length new.registers ≡ length old.registers
  heap_bound : new.heap_bound ≡ old.heap_bound
  frame_limit : new.frame_limit ≡ old.frame_limit
  heap_top : old.heap_top ≤ new.heap_top
  within : map.len old.memory ≤ old.frame_limit → map.len new.memory ≤ new.frame_limit
  frames : old.heap_bound ≡ 0 → map.len new.memory ≡ map.len old.memory
  heap_end : old.heap_bound ≡ 0 → new.heap_top ≡ old.heap_top

-- an outcome that keeps this
abbrev IsKept : {Target : Type 0} → State → Outcome Target State End → Type 0
IsKept s (Next t) = KeepsState s t
IsKept s (Jump target t) = KeepsState s t
IsKept s (Call number t) = KeepsState s t
IsKept s (Ends (Halt registers memory)) = (memory ≡ s.memory) × (length registers ≡ length s.registers)
IsKept s (Ends (Panic memory)) = Unit {0}
IsKept s (Ends (Fault address memory)) = Unit {0}
IsKept s (Ends (Unanswered number memory)) = Unit {0}
IsKept s (Ends (BadReply line address memory)) = Unit {0}

-- as many registers, with other values
puts_keep : (s : State) (registers : List ℕ) → length registers ≡ length s.registers → KeepsState s (record s { registers = registers })
puts_keep s registers count = record { registers = count; heap_bound = refl; frame_limit = refl; heap_top = omega arith; within = λ few. few; frames = λ _. refl; heap_end = λ _. refl }

put_keeps : (s : State) (at value : ℕ) → KeepsState s (with_register s at value)
put_keeps s at value = puts_keep s _ (length-set s.registers at value)

all_keeps : (s : State) → KeepsState s s
all_keeps s = puts_keep s s.registers refl

-- another memory with as many pages
memory_keeps : (s : State) (memory : Memory) → map.len memory ≡ map.len s.memory → KeepsState s (with_memory s memory)
memory_keeps s memory same = record { registers = refl; heap_bound = refl; frame_limit = refl; heap_top = omega arith; within = λ few. omega (arith, few, same); frames = λ _. same; heap_end = λ _. refl }

-- the heap grows only below its bound, with no more pages than there may be
sbrk_keeps : (s : State) (at size : ℕ) → KeepsState s (sbrk s at size)
unfolding sbrk
sbrk_keeps s at size = by_tests (nat_eq size 0) (may_end_at s (s.heap_top + size)) refl refl
  where
    grown : nat_eq size 0 ≡ false → may_end_at s (s.heap_top + size) ≡ true → KeepsState s (with_register (with_top s (s.heap_top + size)) at s.heap_top)
    grown some may =
        let parts = and_parts (nat_le (s.heap_top + size) s.heap_bound) _ may in
        let below : s.heap_top + size ≤ s.heap_bound = leb-true (s.heap_top + size) s.heap_bound parts.0 in
        let few : map.len (with_heap s (s.heap_top + size)) ≤ s.frame_limit = leb-true _ s.frame_limit parts.1 in
        let more : size ≢ 0 = grind (arith, nat_tests, some) in
        record {
          registers = length-set s.registers at s.heap_top;
          heap_bound = refl;
          frame_limit = refl;
          heap_top = omega arith;
          within = λ _. few;
          frames = λ none. absurd (omega (arith, below, more, none));
          heap_end = λ none. absurd (omega (arith, below, more, none));
        }

    by_tests : (none may : Bool) → nat_eq size 0 ≡ none → may_end_at s (s.heap_top + size) ≡ may → KeepsState s (if none then with_register s at s.heap_top else (if may then with_register (with_top s (s.heap_top + size)) at s.heap_top else with_register s at 0))
    by_tests true may e e' = put_keeps s at s.heap_top
    by_tests false true e e' = grown e e'
    by_tests false false e e' = put_keeps s at 0

choice : {Target : Type 0} (s : State) (b : Bool) (x y : Outcome Target State End) → IsKept s x → IsKept s y → IsKept s (if b then x else y)
choice s true x y h h' = h
choice s false x y h h' = h'

named_keeps : (s : State) (registers : List ℕ) (target : Option ℕ) → length registers ≡ length s.registers → IsKept s (to_named panic target (record s { registers = registers }))
named_keeps s registers None count = tt
named_keeps s registers (Some target) count = puts_keep s registers count

jump_keeps : (table : List ℕ) (number : ℕ) (s : State) (registers : List ℕ) → length registers ≡ length s.registers → IsKept s (jump_by halt panic table number (record s { registers = registers }))
jump_keeps table number s registers count = choice s (nat_eq number halt_address) _ _ (refl, count) (named_keeps s registers (named table number) count)

refused_keeps : (access : Access) (s : State) → IsKept {Target = ℕ} s (refused access s)
refused_keeps Low s = tt
refused_keeps (PageFault address) s = tt

load_keeps : (at : ℕ) (signed : Bool) (len address : ℕ) (s : State) → IsKept {Target = ℕ} s (loads (λ x. with_register s at x) signed len address s)
load_keeps at signed len address s = by_load (load s.memory (address % 2 ^ 32) len)
  where
    by_load : (r : Result ℕ Access) → IsKept {Target = ℕ} s (loaded_by (λ x. with_register s at x) signed len s r)
    by_load (Ok number) = put_keeps s at _
    by_load (Err access) = refused_keeps access s

module _ (keep : StoresKeepPages) where
  store_keeps : (len address word : ℕ) (s : State) → IsKept {Target = ℕ} s (stores len address word s)
  store_keeps len address word s = by_answer (store_answer s.memory (address % 2 ^ 32) len)
    where
      by_answer : (r : Result Unit Access) → IsKept {Target = ℕ} s (stored_by (with_memory s (store s.memory (address % 2 ^ 32) len word)) s r)
      by_answer (Ok done) = memory_keeps s _ (keep s.memory (address % 2 ^ 32) (little len word) (least_refused s.memory true (address % 2 ^ 32) len))
      by_answer (Err access) = refused_keeps access s

  does_keeps : (table : List ℕ) (target : ℕ) (i : Instr) (s : State) (o : Operation) → IsKept s (does table target i s o)
  does_keeps table target i s op.Trap = tt
  does_keeps table target i s op.Fallthrough = all_keeps s
  does_keeps table target i s op.Ecalli = all_keeps s
  does_keeps table target i s op.LoadImm64 = put_keeps s _ _
  does_keeps table target i s (op.StoreImm width) = store_keeps (bytes_of width) i.x i.y s
  does_keeps table target i s op.Jump = all_keeps s
  does_keeps table target i s op.JumpInd = jump_keeps table ((register s i.a + i.x) % 2 ^ 32) s s.registers refl
  does_keeps table target i s op.LoadImm = put_keeps s _ _
  does_keeps table target i s (op.Load width extension) = load_keeps i.a (has_sign extension) (bytes_of width) i.x s
  does_keeps table target i s (op.Store width) = store_keeps (bytes_of width) i.x (register s i.a) s
  does_keeps table target i s (op.StoreImmInd width) = store_keeps (bytes_of width) (register s i.a + i.x) i.y s
  does_keeps table target i s op.LoadImmJump = put_keeps s _ _
  does_keeps table target i s (op.BranchImm condition) = choice s (holds condition (register s i.a) i.x) _ _ (all_keeps s) (all_keeps s)
  does_keeps table target i s (op.Unary f) = put_keeps s _ _
  does_keeps table target i s op.Sbrk = sbrk_keeps s i.d (register s i.a)
  does_keeps table target i s (op.StoreInd width) = store_keeps (bytes_of width) (register s i.b + i.x) (register s i.a) s
  does_keeps table target i s (op.LoadInd width extension) = load_keeps i.a (has_sign extension) (bytes_of width) (register s i.b + i.x) s
  does_keeps table target i s (op.Imm f) = put_keeps s _ _
  does_keeps table target i s (op.ImmAlt f) = put_keeps s _ _
  does_keeps table target i s (op.CmovImm condition) = put_keeps s _ _
  does_keeps table target i s (op.Branch condition) = choice s (holds condition (register s i.a) (register s i.b)) _ _ (all_keeps s) (all_keeps s)
  does_keeps table target i s op.LoadImmJumpInd = jump_keeps table ((register s i.b + i.y) % 2 ^ 32) s (with_register s i.a i.x).registers (length-set s.registers i.a i.x)
  does_keeps table target i s (op.Register f) = put_keeps s _ _
  does_keeps table target i s (op.Cmov condition) = put_keeps s _ _

  effect_keeps : (table : List ℕ) (target : ℕ) (i : Instr) (s : State) → IsKept s (effect table target i s)
  unfolding effect
  effect_keeps table target i s = does_keeps table target i s (operation_of i.op)

  land_keeps : (starts : ℕ → Bool) (s : State) (x : Outcome ℕ State End) → IsKept s x → IsKept s (land starts x)
  land_keeps starts s (Next t) h = h
  land_keeps starts s (Jump target t) h = choice s (starts target) _ _ h tt
  land_keeps starts s (Call number t) h = h
  land_keeps starts s (Ends end) h = h

  at_keeps : (table : List ℕ) (code : Listing) (i : FetchedInstr) (s : State) → IsKept s (does_at table code i s)
  at_keeps table code i s = land_keeps (is_start code) s _ (effect_keeps table (sum_64 i.at (offset_of (form_of i.instr.op) i.instr)) i.instr s)

  same : (m : Machine) → Keeps m m
  same m = record { table = refl; code = refl; registers = refl; heap_bound = refl; frame_limit = refl; heap_top = omega arith; gas = omega arith; within = λ few. few; frames = λ _. refl; heap_end = λ _. refl }

  gone_keeps : (m : Machine) (position : ℕ) (s : State) → KeepsState m.state s → Keeps m (record m { counter = position; state = s })
  gone_keeps m position s h = record { table = refl; code = refl; registers = h.registers; heap_bound = h.heap_bound; frame_limit = h.frame_limit; heap_top = h.heap_top; gas = omega arith; within = h.within; frames = h.frames; heap_end = h.heap_end }

  after_outcome_keeps : (m : Machine) (next : ℕ) (x : Outcome ℕ State End) → IsKept m.state x → Keeps m (after_outcome m next x).machine
  after_outcome_keeps m next (Next s) h = gone_keeps m next s h
  after_outcome_keeps m next (Jump target s) h = gone_keeps m target s h
  after_outcome_keeps m next (Call number s) h = gone_keeps m next s h
  after_outcome_keeps m next (Ends (Halt registers memory)) h =
      let pages : map.len memory ≡ map.len m.state.memory = ap map.len h.0 in
      record { table = refl; code = refl; registers = h.1; heap_bound = refl; frame_limit = refl; heap_top = omega arith; gas = omega arith; within = λ few. omega (arith, few, pages); frames = λ _. pages; heap_end = λ _. refl }
  after_outcome_keeps m next (Ends (Panic memory)) h = same m
  after_outcome_keeps m next (Ends (Fault address memory)) h = same m
  after_outcome_keeps m next (Ends (Unanswered number memory)) h = same m
  after_outcome_keeps m next (Ends (BadReply line address memory)) h = same m

  begun_keeps : (m : Machine) (o : Option (Fetched FetchedInstr ℕ)) → Keeps m (begun m o).machine
  begun_keeps m None = same m
  begun_keeps m (Some f) = after_outcome_keeps m f.next _ (at_keeps m.table m.code f.instr m.state)

  paid_keeps : (m n : Machine) (k : ℕ) → k ≤ m.gas → Keeps (record m { gas = k }) n → Keeps m n
  paid_keeps m n k less h = record { table = h.table; code = h.code; registers = h.registers; heap_bound = h.heap_bound; frame_limit = h.frame_limit; heap_top = h.heap_top; gas = omega (arith, less, h.gas); within = h.within; frames = h.frames; heap_end = h.heap_end }

  stepped_keeps : (m : Machine) → Keeps m (stepped m).machine
  stepped_keeps m = by_gas m.gas refl
    where
      by_gas : (gas : ℕ) → m.gas ≡ gas → Keeps m (stepped m).machine
      by_gas zero none = rw (no_step m none) (same m)
      by_gas (suc k) some = rw (begins m k some) (paid_keeps m _ k (omega (arith, some)) (begun_keeps (record m { gas = k }) (instr_at m.code m.counter)))

  as_stepped : (m n : Machine) (how : Step) → record { machine = n; answer = how } ≡ stepped m → Keeps m n
  as_stepped m n how is = subst (λ (r : Stepped). Keeps m r.machine) (sym is) (stepped_keeps m)

  -- a step keeps this, whatever it answers
  pub step_keeps : (m n : Machine) (how : Step) → IsStep m n how → Keeps m n
  step_keeps m n answer.Next is = as_stepped m n answer.Next is
  step_keeps m n answer.Halt is = as_stepped m n answer.Halt is
  step_keeps m n answer.Panic is = as_stepped m n answer.Panic is
  step_keeps m n (answer.Fault address) is = as_stepped m n (answer.Fault address) is
  step_keeps m n answer.OutOfGas is = as_stepped m n answer.OutOfGas is
  step_keeps m n (answer.Host number) is = as_stepped m n (answer.Host number) is
  step_keeps m n answer.Memory is = subst (Keeps m) (sym is.0) (same m)

  -- without a heap no step maps pages
  no_pages : (m : Machine) → m.state.heap_bound ≡ 0 → MapsPages m → ⊥
  no_pages m none maps =
      let stays : (stepped m).machine.state.heap_top ≡ m.state.heap_top = (stepped_keeps m).heap_end none in
      let less : pages_of m.state.heap_top < pages_of m.state.heap_top = rw stays at maps in
      omega (arith, less)

  -- so no run ends because an allocation failed
  pub never_short : (m n : Machine) (e : Exit) → Keeps m n → AreSteps m n (last_answer e) → m.state.heap_bound ≡ 0 → e ≢ exit.Memory
  never_short m n exit.Halt keeps is none = λ same. cc
  never_short m n exit.Panic keeps is none = λ same. cc
  never_short m n (exit.Fault address) keeps is none = λ same. cc
  never_short m n exit.OutOfGas keeps is none = λ same. cc
  never_short m n (exit.Host number) keeps is none = λ same. cc
  never_short m n exit.Memory keeps is none = λ same. no_pages n (keeps.heap_bound ∙ none) is.1

-- where the heap fits, it does after what keeps its bound and does not lower its end
pub fits_on : (m n : Machine) → Keeps m n → HeapFits m.state → HeapFits n.state
fits_on m n keeps (inl none) = inl (keeps.heap_bound ∙ none)
fits_on m n keeps (inr fits) = inr (omega (arith, keeps.heap_top, fits.0), omega (arith, keeps.heap_bound, fits.1))
