-- Jumps lead to beginnings of blocks, and so the pieces are a cut.
use Rattle.std.proofs.Common.{◌≡◌, ℕ, zero, suc, ◌+◌, ◌/◌, ◌%◌, ◌^◌, Bool, true, false, List, [], ◌∷◌, Option, Some, None, refl, sym, arith}
use Rattle.std.specs.Prelude.{slice_get, nat_eq, if◌then◌else◌}
use Rattle.std.specs.List.{AllByRecursion}
use Rattle.numbers.specs.Words.{word_of}
use Rattle.rv_decode.specs.declared.ops.RvOp.{RvOp}
use Rattle.rv_decode.specs.declared.ops.RvOp.TheVariants as rv
use Rattle.runs.specs.Machine.{Outcome, Next, Jump, Call, Ends, and_then, does}
use Rattle.runs.specs.Numbers.{halt_address, entry, named, to_named, jump_by}
use Rattle.runs.specs.Blocks.{blocks, block_of}
use Rattle.runs.specs.Segments.{Segment, Implements, JumpsToSegments, op_place}
use Rattle.machine_state.specs.State.{State, IsState}
use Rattle.machine_state.specs.Ends.{End, halt, panic}
use Rattle.page_memory.proofs.Outcomes.{loads_by, stores_by}
use Rattle.arithmetic.specs.Operations.{holds}
use Rattle.lift_blocks.specs.Arithmetic.{of_cond}
use Rattle.lift_blocks.specs.Operations.{Operation, Plain, Branch, Jal, Jalr, Pair, HostCall, Sbrk}
use Rattle.lift_blocks.specs.Step.{value, with_value, load_bytes, load_has_sign, store_bytes, plain_does, op_does}
use Rattle.lift_blocks.specs.Listed.{Lifted}
use Rattle.lower.specs.Cutting.{Targeted, block_segments, segments, first_segment, instr_does, instr_places}
use Rattle.lift_blocks.specs.Laws.{CallsBeginBlocks}
use Rattle.lower.specs.Lowering.{is_call}
use Rattle.lower.specs.Laws.{CallIsFirst, LoweredIsCut}
use Rattle.lower.proofs.Lists.{all_at, all_joined}
use Rattle.lower.proofs.Well.{IsWell, IsWellBlock, blocks_are_well, all_fit}
use Rattle.lower.proofs.Blocks.{segments_are, call_segments, each_block_is_implemented}
use Rattle.lower.proofs.Calls.{calls_are_first}
use Rattle.lower.proofs.Begin.{needed_begin}

module _ (lifted : Lifted) (begin : (i t : ℕ) → slice_get lifted.needed i ≡ Some t → op_place (segments lifted) (first_segment lifted (block_of lifted.begins t)) ≡ t) where
  -- where it jumps, a block begins
  abbrev IsTargeted : Outcome ℕ State End → Type 0
  IsTargeted o = JumpsToSegments (segments lifted) (λ t. t) (instr_places lifted) o

  -- a jump to a place of the address map
  to_begin : (i : ℕ) (o : Option ℕ) (s : State) → slice_get lifted.needed i ≡ o → IsTargeted (to_named panic o s)
  to_begin i None s e = tt
  to_begin i (Some t) s e = record { segment = first_segment lifted (block_of lifted.begins t); op_is = sym (begin i t e); instr_is = refl }

  -- a jump to an entry of the table
  entry_is_targeted : (k : ℕ) (s : State) → IsTargeted (to_named panic (entry lifted.needed k) s)
  entry_is_targeted zero s = tt
  entry_is_targeted (suc i) s = to_begin i (slice_get lifted.needed i) s refl

  -- a jump by a number leads to the beginning of a block
  jump_is_targeted : (number : ℕ) (s : State) → IsTargeted (jump_by halt panic lifted.needed number s)
  jump_is_targeted number s = by_halt (nat_eq number halt_address)
    where
      by_even : (b : Bool) → IsTargeted (to_named panic (if b then entry lifted.needed (number / 2) else None) s)
      by_even true = entry_is_targeted (number / 2) s
      by_even false = tt

      by_halt : (b : Bool) → IsTargeted (if b then Ends (halt s) else to_named panic (named lifted.needed number) s)
      by_halt true = tt
      by_halt false = by_even (nat_eq (number % 2) 0)

  -- what is no jump leads nowhere
  plain_is_targeted : (op : RvOp) (s : State) → IsTargeted (plain_does op s)
  plain_is_targeted (rv.Lui rd v) s = tt
  plain_is_targeted (rv.Auipc rd v) s = tt
  plain_is_targeted (rv.Jal rd offset) s = tt
  plain_is_targeted (rv.Jalr rd rs1 imm) s = tt
  plain_is_targeted (rv.Branch cond rs1 rs2 offset) s = tt
  plain_is_targeted (rv.Load width rd rs1 imm) s = loads_by IsTargeted (λ x. with_value s rd x) (load_has_sign width) (load_bytes width) (value s rs1 + word_of imm) s (λ number. tt) (λ end. tt)
  plain_is_targeted (rv.Store width rs1 rs2 imm) s = stores_by IsTargeted (store_bytes width) (value s rs1 + word_of imm) (value s rs2) s (λ memory. tt) (λ end. tt)
  plain_is_targeted (rv.OpImm op rd rs1 imm) s = tt
  plain_is_targeted (rv.Op op rd rs1 rs2) s = tt
  plain_is_targeted rv.Fence s = tt
  plain_is_targeted rv.Trap s = tt

  -- a jump to a target that begins a block
  target_is_targeted : (t : ℕ) (s : State) → op_place (segments lifted) (first_segment lifted (block_of lifted.begins t)) ≡ t → IsTargeted (Jump t s)
  target_is_targeted t s e = record { segment = first_segment lifted (block_of lifted.begins t); op_is = sym e; instr_is = refl }

  choice_is_targeted : (b : Bool) (t : ℕ) (s : State) → op_place (segments lifted) (first_segment lifted (block_of lifted.begins t)) ≡ t → IsTargeted (if b then Jump t s else Next s)
  choice_is_targeted true t s e = target_is_targeted t s e
  choice_is_targeted false t s e = tt

  -- each jump of an operation leads to the beginning of a block
  op_is_targeted : (op : Operation ℕ) (s : State) → IsWell lifted op → IsTargeted (op_does lifted.needed op s)
  op_is_targeted (Plain op) s h = plain_is_targeted op s
  op_is_targeted (Branch cond rs1 rs2 target) s h = choice_is_targeted (holds (of_cond cond) (value s rs1) (value s rs2)) target s (h.begins target refl)
  op_is_targeted (Jal rd link target) s h = target_is_targeted target (with_value s rd link) (h.begins target refl)
  op_is_targeted (Jalr rd rs1 imm link) s h = jump_is_targeted ((value s rs1 + word_of imm) % 2 ^ 32) (with_value s rd link)
  op_is_targeted (Pair temp rd link target) s h = target_is_targeted target (with_value (with_value s temp 0) rd link) (h.begins target refl)
  op_is_targeted (HostCall number) s h = tt
  op_is_targeted Sbrk s h = tt

  -- and of one operation and what comes then
  targeted_then : (o : Outcome ℕ State End) (f : State → Outcome ℕ State End) → IsTargeted o → ((s : State) → IsTargeted (f s)) → IsTargeted (and_then o f)
  targeted_then (Next s) f a h = h s
  targeted_then (Jump target s) f a h = a
  targeted_then (Call number s) f a h = tt
  targeted_then (Ends x) f a h = tt

  -- and so does each jump of a block
  block_is_targeted : (ops : List (Operation ℕ)) (s : State) → AllByRecursion (IsWell lifted) ops → IsTargeted (does (op_does lifted.needed) ops s)
  block_is_targeted [] s h = tt
  block_is_targeted (op ∷ ops) s h = targeted_then (op_does lifted.needed op s) (does (op_does lifted.needed) ops) (op_is_targeted op s h.0) (λ s1. block_is_targeted ops s1 h.1)

-- a block of which only the first operation may call the host
abbrev IsCallingBlock : Lifted → List (Operation ℕ) → Type 0
IsCallingBlock lifted ops = IsWellBlock lifted ops × CallIsFirst ops

-- the pieces of a block jump where it does
segments_are_targeted : (lifted : Lifted) (begin : (i t : ℕ) → slice_get lifted.needed i ≡ Some t → op_place (segments lifted) (first_segment lifted (block_of lifted.begins t)) ≡ t) (ops : List (Operation ℕ)) → IsCallingBlock lifted ops
    → AllByRecursion (λ (p : Segment (Operation ℕ) Targeted). (s : State) → IsTargeted lifted begin (does (op_does lifted.needed) p.ops s)) (block_segments lifted.needed ops)
segments_are_targeted lifted begin [] h = absurd (omega (arith, h.0.some))
segments_are_targeted lifted begin (op ∷ ops) h = by_first (is_call op) ops refl h.0.each h.1
  where
    by_first : (b : Bool) (ops : List (Operation ℕ)) → is_call op ≡ b → AllByRecursion (IsWell lifted) (op ∷ ops) → CallIsFirst (op ∷ ops) → AllByRecursion (λ (p : Segment (Operation ℕ) Targeted). (s : State) → IsTargeted lifted begin (does (op_does lifted.needed) p.ops s)) (block_segments lifted.needed (op ∷ ops))
    by_first false ops call each first = rw (segments_are lifted.needed (op ∷ ops) (call, first.0) (omega arith)) ((λ s. block_is_targeted lifted begin (op ∷ ops) s each), tt)
    by_first true [] call each first = absurd (omega (arith, first.1 call))
    by_first true (next ∷ ops) call each first = rw (call_segments lifted.needed op next ops call first.0) ((λ s. block_is_targeted lifted begin (op ∷ []) s (each.0, tt)), ((λ s. block_is_targeted lifted begin (next ∷ ops) s each.1), tt))

both : {A : Type 0} (P Q : A → Type 0) (xs : List A) → AllByRecursion P xs → AllByRecursion Q xs → AllByRecursion (λ x. P x × Q x) xs
both P Q [] f g = tt
both P Q (x ∷ xs) f g = ((f.0, g.0), both P Q xs f.1 g.1)

-- the pieces are a cut
pub lowered_is_cut : CallsBeginBlocks → LoweredIsCut
lowered_is_cut law given lifted h = record {
  implements = λ k p e. all_at (Implements (op_does lifted.needed) (instr_does lifted.needed) IsState) (segments lifted) k p implemented e;
  jump_to_segments = λ k p e s g. all_at (λ (p : Segment (Operation ℕ) Targeted). (s : State) → IsTargeted lifted (needed_begin given lifted h) (does (op_does lifted.needed) p.ops s)) (segments lifted) k p targeted e s;
}
  where
    all : AllByRecursion (IsCallingBlock lifted) (blocks lifted.begins lifted.ops)
    all = both (IsWellBlock lifted) CallIsFirst (blocks lifted.begins lifted.ops) (blocks_are_well given lifted h) (calls_are_first law given lifted h)

    implemented : AllByRecursion (Implements (op_does lifted.needed) (instr_does lifted.needed) IsState) (segments lifted)
    implemented = all_joined _ (block_segments lifted.needed) (IsCallingBlock lifted) (blocks lifted.begins lifted.ops) (λ ops b. each_block_is_implemented lifted.needed ops (all_fit lifted ops b.0.each) b.1 b.0.front b.0.some) all

    targeted : AllByRecursion (λ (p : Segment (Operation ℕ) Targeted). (s : State) → IsTargeted lifted (needed_begin given lifted h) (does (op_does lifted.needed) p.ops s)) (segments lifted)
    targeted = all_joined _ (block_segments lifted.needed) (IsCallingBlock lifted) (blocks lifted.begins lifted.ops) (λ ops b. segments_are_targeted lifted (needed_begin given lifted h) ops b) all
