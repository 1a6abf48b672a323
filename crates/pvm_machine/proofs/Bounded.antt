-- Without a heap no instruction brings or takes pages, and every number that a step names has 64 bits.
use Rattle.std.proofs.Common.{◌≡◌, ℕ, zero, suc, ◌+◌, ◌-◌, ◌*◌, ◌<◌, ◌≤◌, Bool, true, false, List, Option, Some, None, refl, sym, ◌∙◌, subst, arith, nat_eq}
use Rattle.std.specs.Prelude.{if◌then◌else◌, ◌%◌, ◌/◌, ◌^◌, ◌&&◌, min, length, nat_le, nat_lt, slice_index}
use Rattle.std.specs.FinMap as map
use Rattle.std.proofs.Math.Nat.{mod-lt}
use Rattle.std.proofs.lemmas.Bool.{ltb-true, and_parts}
use Rattle.std.proofs.lemmas.Bool.Decides.{nat_tests}
use Rattle.numbers.specs.Bytes.{little, number_of}
use Rattle.numbers.specs.Words.{sum_64}
use Rattle.runs.specs.Machine.{Outcome, Next, Jump, Call, Ends}
use Rattle.runs.specs.Numbers.{halt_address, named, to_named, jump_by}
use Rattle.runs.specs.Lockstep.{Fetched}
use Rattle.machine_state.specs.Memory.{Memory, page_size}
use Rattle.machine_state.specs.State.{State, register, with_register, with_memory}
use Rattle.machine_state.specs.Heap.{may_end_at, with_top, sbrk}
use Rattle.machine_state.specs.Ends.{End, Halt, Panic, Fault, Unanswered, BadReply, halt, panic}
use Rattle.page_memory.specs.Access.{Low, Fault as PageFault, is_refused, next_address, least_of, least_refused, loaded, stored, answered}
use Rattle.page_memory.specs.Outcomes.{refused, loaded_by, loads, stored_by, stores}
use Rattle.page_memory.proofs.Outcomes.{widened_fits}
use Rattle.page_memory.proofs.Counted.{len-with_bytes}
use Rattle.pvm_ops.specs.Listing.{Listing, is_marked, is_stop, run_before, skip}
use Rattle.pvm_ops.specs.declared.instr.Instr.{Instr}
use Rattle.pvm_ops.specs.declared.forms.Form.{Form}
use Rattle.pvm_ops.specs.declared.forms.Form.TheVariants as form
use Rattle.pvm_ops.specs.Opcodes.{is_known, form_of}
use Rattle.pvm_ops.specs.Offsets.{offset_of}
use Rattle.pvm_ops.specs.Fetch.{immediate, bytes_from, trap, operands, fetch_of}
use Rattle.pvm_ops.specs.declared.instr.Fetched as instr
use Rattle.blob_check.specs.Starts.{is_start}
use Rattle.arithmetic.specs.Operations.{holds}
use Rattle.pvm_machine.specs.declared.operation.Operation.{Operation}
use Rattle.pvm_machine.specs.declared.operation.Operation.TheVariants as op
use Rattle.pvm_machine.specs.Operations.{operation_of}
use Rattle.pvm_machine.specs.Effect.{bytes_of, has_sign, does, effect}
use Rattle.pvm_machine.specs.Machine.{Machine}
use Rattle.pvm_machine.specs.Step.{FetchedInstr, land, has_instr, does_at, instr_at}
use Rattle.pvm_machine.specs.Stepped.{Stepped, after_outcome, begun, stayed, stepped, go_on, repeated}
use Rattle.pvm_machine.specs.Within.{NamesWord, IsWithin, StepsStayWithin}
use Rattle.pvm_machine.specs.declared.answers.Step.{Step}
use Rattle.pvm_machine.specs.declared.answers.Step.TheVariants as answer
use Rattle.pvm_machine.proofs.Steps.{begins, no_step}

-- a state with a number of pages and without a heap
abbrev Keeps : ℕ → State → Type 0
Keeps n s = (map.len s.memory ≡ n) × (s.heap_bound ≡ 0)

-- an outcome that leaves such a state, whose call has this number, and whose fault an address of 32 bits
abbrev Leaves : ℕ → ℕ → Outcome ℕ State End → Type 0
Leaves n x (Next s) = Keeps n s
Leaves n x (Jump target s) = Keeps n s
Leaves n x (Call number s) = Keeps n s × (number ≡ x)
Leaves n x (Ends (Halt registers memory)) = map.len memory ≡ n
Leaves n x (Ends (Panic memory)) = Unit {0}
Leaves n x (Ends (Fault address memory)) = address < 2 ^ 32
Leaves n x (Ends (Unanswered number memory)) = Unit {0}
Leaves n x (Ends (BadReply line address memory)) = Unit {0}

choice : (n x : ℕ) (b : Bool) (y z : Outcome ℕ State End) → Leaves n x y → Leaves n x z → Leaves n x (if b then y else z)
choice n x true y z h k = h
choice n x false y z h k = k

-- the least refused address has 32 bits
abbrev IsAddress : Option ℕ → Type 0
IsAddress None = Unit {0}
IsAddress (Some least) = least < 2 ^ 32

least_is : (at : ℕ) (rest : Option ℕ) → at < 2 ^ 32 → IsAddress rest → least_of at rest < 2 ^ 32
least_is at None less h = less
least_is at (Some least) less h = omega (arith, less, h)

least_chosen : (b : Bool) (at : ℕ) (rest : Option ℕ) → at < 2 ^ 32 → IsAddress rest → IsAddress (if b then Some (least_of at rest) else rest)
least_chosen true at rest less h = least_is at rest less h
least_chosen false at rest less h = h

least_is_address : (len at : ℕ) (memory : Memory) (writing : Bool) → at < 2 ^ 32 → IsAddress (least_refused memory writing at len)
unfolding least_refused
least_is_address zero at memory writing less = tt
least_is_address (suc len) at memory writing less =
    least_chosen (is_refused memory writing at) at (least_refused memory writing (next_address at) len) less
    (least_is_address len (next_address at) memory writing (mod-lt (at + 1) (omega arith)))

refused_at : (n x least : ℕ) (b : Bool) (s : State) → least < 2 ^ 32 → Leaves n x (refused (if b then Low else PageFault (least / page_size * page_size)) s)
refused_at n x least true s less = tt
refused_at n x least false s less = omega (arith, less)

loads_leave : (n x : ℕ) (put : ℕ → State) (signed : Bool) (len address : ℕ) (s : State) → ((word : ℕ) → Keeps n (put word)) → Leaves n x (loads put signed len address s)
loads_leave n x put signed len address s keeps =
    by_least (least_refused s.memory false (address % 2 ^ 32) len) (least_is_address len (address % 2 ^ 32) s.memory false (mod-lt address (omega arith)))
  where
    by_least : (o : Option ℕ) → IsAddress o → Leaves n x (loaded_by put signed len s (loaded s.memory (address % 2 ^ 32) len o))
    by_least None h = keeps _
    by_least (Some least) h = refused_at n x least (nat_lt least (2 ^ 16)) s h

stores_leave : (n x : ℕ) (len address word : ℕ) (s : State) → Keeps n s → Leaves n x (stores len address word s)
stores_leave n x len address word s keeps =
    by_least (least_refused s.memory true (address % 2 ^ 32) len) (least_is_address len (address % 2 ^ 32) s.memory true (mod-lt address (omega arith)))
  where
    by_least : (o : Option ℕ) → IsAddress o → Leaves n x (stored_by (with_memory s (stored s.memory (address % 2 ^ 32) (little len word) o)) s (answered o))
    by_least None h = (len-with_bytes (little len word) s.memory (address % 2 ^ 32) ∙ keeps.0, keeps.1)
    by_least (Some least) h = refused_at n x least (nat_lt least (2 ^ 16)) s h

named_leaves : (n x : ℕ) (o : Option ℕ) (s : State) → Keeps n s → Leaves n x (to_named panic o s)
named_leaves n x None s keeps = tt
named_leaves n x (Some target) s keeps = keeps

jump_leaves : (n x : ℕ) (table : List ℕ) (number : ℕ) (s : State) → Keeps n s → Leaves n x (jump_by halt panic table number s)
jump_leaves n x table number s keeps = choice n x (nat_eq number halt_address) _ _ keeps.0 (named_leaves n x (named table number) s keeps)

-- the heap doesn't grow
sbrk_leaves : (n x : ℕ) (s : State) (at size : ℕ) → Keeps n s → Leaves n x (Next (sbrk s at size))
unfolding sbrk
sbrk_leaves n x s at size keeps = by_tests (nat_eq size 0) (may_end_at s (s.heap_top + size)) refl refl
  where
    by_tests : (none may : Bool) → nat_eq size 0 ≡ none → may_end_at s (s.heap_top + size) ≡ may
        → Leaves n x (Next (if none then with_register s at s.heap_top else (if may then with_register (with_top s (s.heap_top + size)) at s.heap_top else with_register s at 0)))
    by_tests true may e f = keeps
    by_tests false false e f = keeps
    by_tests false true e f =
        let below : nat_le (s.heap_top + size) s.heap_bound ≡ true = (and_parts (nat_le (s.heap_top + size) s.heap_bound) _ f).0 in
        absurd (grind (arith, nat_tests, below, e, keeps.1))

does_leave : (n table_target : ℕ) (table : List ℕ) (i : Instr) (s : State) (o : Operation) → Keeps n s → Leaves n i.x (does table table_target i s o)
does_leave n target table i s op.Trap keeps = tt
does_leave n target table i s op.Fallthrough keeps = keeps
does_leave n target table i s op.Ecalli keeps = (keeps, refl)
does_leave n target table i s op.LoadImm64 keeps = keeps
does_leave n target table i s (op.StoreImm width) keeps = stores_leave n i.x (bytes_of width) i.x i.y s keeps
does_leave n target table i s op.Jump keeps = keeps
does_leave n target table i s op.JumpInd keeps = jump_leaves n i.x table ((register s i.a + i.x) % 2 ^ 32) s keeps
does_leave n target table i s op.LoadImm keeps = keeps
does_leave n target table i s (op.Load width extension) keeps = loads_leave n i.x (λ x. with_register s i.a x) (has_sign extension) (bytes_of width) i.x s (λ word. keeps)
does_leave n target table i s (op.Store width) keeps = stores_leave n i.x (bytes_of width) i.x (register s i.a) s keeps
does_leave n target table i s (op.StoreImmInd width) keeps = stores_leave n i.x (bytes_of width) (register s i.a + i.x) i.y s keeps
does_leave n target table i s op.LoadImmJump keeps = keeps
does_leave n target table i s (op.BranchImm condition) keeps = choice n i.x (holds condition (register s i.a) i.x) _ _ keeps keeps
does_leave n target table i s (op.Unary f) keeps = keeps
does_leave n target table i s op.Sbrk keeps = sbrk_leaves n i.x s i.d (register s i.a) keeps
does_leave n target table i s (op.StoreInd width) keeps = stores_leave n i.x (bytes_of width) (register s i.b + i.x) (register s i.a) s keeps
does_leave n target table i s (op.LoadInd width extension) keeps = loads_leave n i.x (λ x. with_register s i.a x) (has_sign extension) (bytes_of width) (register s i.b + i.x) s (λ word. keeps)
does_leave n target table i s (op.Imm f) keeps = keeps
does_leave n target table i s (op.ImmAlt f) keeps = keeps
does_leave n target table i s (op.CmovImm condition) keeps = keeps
does_leave n target table i s (op.Branch condition) keeps = choice n i.x (holds condition (register s i.a) (register s i.b)) _ _ keeps keeps
does_leave n target table i s op.LoadImmJumpInd keeps = jump_leaves n i.x table ((register s i.b + i.y) % 2 ^ 32) (with_register s i.a i.x) keeps
does_leave n target table i s (op.Register f) keeps = keeps
does_leave n target table i s (op.Cmov condition) keeps = keeps

effect_leaves : (n target : ℕ) (table : List ℕ) (i : Instr) (s : State) → Keeps n s → Leaves n i.x (effect table target i s)
unfolding effect
effect_leaves n target table i s keeps = does_leave n target table i s (operation_of i.op) keeps

-- where a jump lands, there is a byte of the code
abbrev Lands : Listing → Outcome ℕ State End → Type 0
Lands code (Jump target s) = target < length code.bytes
Lands code o = Unit {0}

marked_within : (code : Listing) (at : ℕ) → is_marked code at ≡ true → at < length code.bytes
marked_within code at e = ltb-true at (length code.bytes) (and_parts (nat_lt at (length code.bytes)) _ e).0

start_within : (code : Listing) (at : ℕ) → is_start code at ≡ true → at < length code.bytes
start_within code at e = marked_within code at (and_parts _ _ (and_parts _ _ e).0).0

land_leaves : (n x : ℕ) (code : Listing) (o : Outcome ℕ State End) → Leaves n x o → Leaves n x (land (is_start code) o) × Lands code (land (is_start code) o)
land_leaves n x code (Next s) h = (h, tt)
land_leaves n x code (Jump target s) h = by_test (is_start code target) refl
  where
    by_test : (b : Bool) → is_start code target ≡ b → Leaves n x (if b then Jump target s else Ends (panic s)) × Lands code (if b then Jump target s else Ends (panic s))
    by_test true e = (h, start_within code target e)
    by_test false e = (tt, tt)
land_leaves n x code (Call number s) h = (h, tt)
land_leaves n x code (Ends end) h = (h, tt)

-- immediates are words
immediate_fits : (bytes : List ℕ) (at len : ℕ) → len ≤ 8 → immediate bytes at len < 2 ^ 64
immediate_fits bytes at len few = widened_fits true len (number_of (bytes_from bytes at len)) few

four : (n : ℕ) → min 4 n ≤ 8
four n = omega arith

operands_fit : (bytes : List ℕ) (at o e : ℕ) (f : Form) → (operands bytes at o e f).x < 2 ^ 64
operands_fit bytes at o e form.N = omega arith
operands_fit bytes at o e form.X = immediate_fits bytes (at + 1) (min 4 e) (four e)
operands_fit bytes at o e form.RE = immediate_fits bytes (at + 2) 8 (omega arith)
operands_fit bytes at o e form.XY = immediate_fits bytes (at + 2) (min 4 (slice_index bytes (at + 1) % 8)) (four _)
operands_fit bytes at o e form.O = immediate_fits bytes (at + 1) (min 4 e) (four e)
operands_fit bytes at o e form.RX = immediate_fits bytes (at + 2) (min 4 (e - 1)) (four _)
operands_fit bytes at o e form.RXY = immediate_fits bytes (at + 2) (min 4 (slice_index bytes (at + 1) / 16 % 8)) (four _)
operands_fit bytes at o e form.RXO = immediate_fits bytes (at + 2) (min 4 (slice_index bytes (at + 1) / 16 % 8)) (four _)
operands_fit bytes at o e form.RR = omega arith
operands_fit bytes at o e form.RRX = immediate_fits bytes (at + 2) (min 4 (e - 1)) (four _)
operands_fit bytes at o e form.RRO = immediate_fits bytes (at + 2) (min 4 (e - 1)) (four _)
operands_fit bytes at o e form.RRXY = immediate_fits bytes (at + 3) (min 4 (slice_index bytes (at + 2) % 8)) (four _)
operands_fit bytes at o e form.RRR = omega arith

few_pass : (stops : ℕ → Bool) (n at : ℕ) → run_before stops at n ≤ n
unfolding run_before
few_pass stops zero at = omega arith
few_pass stops (suc n) at = by_test (stops at) (few_pass stops n (at + 1))
  where
    by_test : (b : Bool) → run_before stops (at + 1) n ≤ n → (if b then 0 else 1 + run_before stops (at + 1) n) ≤ suc n
    by_test true h = omega arith
    by_test false h = omega (arith, h)

-- what is fetched has a word for its first immediate, and the next position is a word
abbrev fetched_if : Bool → Listing → ℕ → instr.Fetched
fetched_if b code at =
    if b then record { instr = operands code.bytes at (slice_index code.bytes at) (skip code at) (form_of (slice_index code.bytes at)); next = at + 1 + skip code at }
    else record { instr = trap; next = at }

fetched_if_x : (b : Bool) (code : Listing) (at : ℕ) → (fetched_if b code at).instr.x < 2 ^ 64
fetched_if_x true code at = operands_fit code.bytes at (slice_index code.bytes at) (skip code at) (form_of (slice_index code.bytes at))
fetched_if_x false code at = omega arith

fetched_if_next : (b : Bool) (code : Listing) (at : ℕ) → at < length code.bytes → length code.bytes ≤ 2 ^ 32 → (fetched_if b code at).next < 2 ^ 64
fetched_if_next true code at less few = omega (arith, less, few, few_pass (is_stop code) 24 (at + 1))
fetched_if_next false code at less few = omega (arith, less, few)

record IsFetched (f : Fetched FetchedInstr ℕ) : Type 0 where
  pub x : f.instr.instr.x < 2 ^ 64
  pub next : f.next < 2 ^ 64

abbrev AreFetched : Option (Fetched FetchedInstr ℕ) → Type 0
AreFetched None = Unit {0}
AreFetched (Some f) = IsFetched f

fetched : (code : Listing) (at : ℕ) → length code.bytes ≤ 2 ^ 32 → AreFetched (instr_at code at)
unfolding instr_at fetch_of
fetched code at few = by_test (has_instr code at) refl
  where
    found : instr.Fetched
    found = fetched_if (is_marked code at && is_known (slice_index code.bytes at)) code at

    by_test : (b : Bool) → has_instr code at ≡ b → AreFetched (if b then Some (record { instr = record { instr = found.instr; at = at }; next = found.next }) else None)
    by_test false e = tt
    by_test true e = record {
      x = fetched_if_x (is_marked code at && is_known (slice_index code.bytes at)) code at;
      next = fetched_if_next (is_marked code at && is_known (slice_index code.bytes at)) code at (marked_within code at (and_parts (is_marked code at) _ e).0) few;
    }

-- what one step keeps, so that the next can be made
record IsStepped (m : Machine) (r : Stepped) : Type 0 where
  pub within : IsWithin m r
  pub heap : r.machine.state.heap_bound ≡ 0
  pub code : r.machine.code ≡ m.code

abbrev IsHere : Machine → Type 0
IsHere m = (m.state.heap_bound ≡ 0) × (m.counter < 2 ^ 64)

stays_here : (m : Machine) (how : Step) → IsHere m → NamesWord how → IsStepped m (stayed m how)
stays_here m how here names = record { within = record { pages = refl; counter = here.1; names = names }; heap = here.0; code = refl }

after_outcome_within : (m : Machine) (next x : ℕ) (o : Outcome ℕ State End) → IsHere m → length m.code.bytes ≤ 2 ^ 32 → x < 2 ^ 64 → next < 2 ^ 64
    → Leaves (map.len m.state.memory) x o → Lands m.code o → IsStepped m (after_outcome m next o)
after_outcome_within m next x (Next s) here few word there h lands = record { within = record { pages = h.0; counter = there; names = tt }; heap = h.1; code = refl }
after_outcome_within m next x (Jump target s) here few word there h lands = record { within = record { pages = h.0; counter = omega (arith, lands, few); names = tt }; heap = h.1; code = refl }
after_outcome_within m next x (Call number s) here few word there h lands = record { within = record { pages = h.0.0; counter = there; names = omega (arith, h.1, word) }; heap = h.0.1; code = refl }
after_outcome_within m next x (Ends (Halt registers memory)) here few word there h lands = record { within = record { pages = h; counter = here.1; names = tt }; heap = here.0; code = refl }
after_outcome_within m next x (Ends (Panic memory)) here few word there h lands = stays_here m answer.Panic here tt
after_outcome_within m next x (Ends (Fault address memory)) here few word there h lands = stays_here m (answer.Fault address) here (omega (arith, h))
after_outcome_within m next x (Ends (Unanswered number memory)) here few word there h lands = stays_here m answer.Panic here tt
after_outcome_within m next x (Ends (BadReply line address memory)) here few word there h lands = stays_here m answer.Panic here tt

begun_within : (m : Machine) (o : Option (Fetched FetchedInstr ℕ)) → IsHere m → length m.code.bytes ≤ 2 ^ 32 → AreFetched o → IsStepped m (begun m o)
begun_within m None here few are = stays_here m answer.Panic here tt
begun_within m (Some f) here few are =
    let leaves = land_leaves (map.len m.state.memory) f.instr.instr.x m.code _ (effect_leaves (map.len m.state.memory) (sum_64 f.instr.at (offset_of (form_of f.instr.instr.op) f.instr.instr)) m.table f.instr.instr m.state (refl, here.0)) in
    after_outcome_within m f.next f.instr.instr.x (does_at m.table m.code f.instr m.state) here few are.x are.next leaves.0 leaves.1

stepped_within : (m : Machine) → IsHere m → length m.code.bytes ≤ 2 ^ 32 → IsStepped m (stepped m)
stepped_within m here few = by_gas m.gas refl
  where
    by_gas : (gas : ℕ) → m.gas ≡ gas → IsStepped m (stepped m)
    by_gas zero none = rw (no_step m none) (stays_here m answer.OutOfGas here tt)
    by_gas (suc k) some =
        let b : IsStepped (record m { gas = k }) (begun (record m { gas = k }) (instr_at m.code m.counter)) = begun_within (record m { gas = k }) (instr_at m.code m.counter) here few (fetched m.code m.counter few) in
        rw (begins m k some) (record { within = record { pages = b.within.pages; counter = b.within.counter; names = b.within.names }; heap = b.heap; code = b.code })

-- so do more steps after one
after : (m : Machine) (more : Machine → Stepped) (r : Stepped) → IsStepped m r → ((next : Machine) → IsHere next → length next.code.bytes ≤ 2 ^ 32 → IsWithin next (more next)) → length m.code.bytes ≤ 2 ^ 32
    → IsWithin m (go_on more r.machine r.answer)
after m more r is rest few = by_answer r.answer is.within.names
  where
    by_answer : (how : Step) → NamesWord how → IsWithin m (go_on more r.machine how)
    by_answer answer.Next names =
        let IsFew : Listing → Type 0 = λ code. length code.bytes ≤ 2 ^ 32 in
        let w = rest r.machine (is.heap, is.within.counter) (subst IsFew (sym is.code) few) in
        record { pages = w.pages ∙ is.within.pages; counter = w.counter; names = w.names }
    by_answer answer.Halt names = record { pages = is.within.pages; counter = is.within.counter; names = names }
    by_answer answer.Panic names = record { pages = is.within.pages; counter = is.within.counter; names = names }
    by_answer (answer.Fault address) names = record { pages = is.within.pages; counter = is.within.counter; names = names }
    by_answer answer.OutOfGas names = record { pages = is.within.pages; counter = is.within.counter; names = names }
    by_answer (answer.Host number) names = record { pages = is.within.pages; counter = is.within.counter; names = names }
    by_answer answer.Memory names = record { pages = is.within.pages; counter = is.within.counter; names = names }

repeated_within : (n : ℕ) (m : Machine) → IsHere m → length m.code.bytes ≤ 2 ^ 32 → IsWithin m (repeated n m)
unfolding repeated
repeated_within zero m here few = (stepped_within m here few).within
repeated_within (suc n) m here few = after m (repeated n) (stepped m) (stepped_within m here few) (repeated_within n) few

pub steps_stay_within : StepsStayWithin
steps_stay_within m heap counter few = repeated_within m.gas m (heap, counter) few
