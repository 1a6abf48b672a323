-- The instructions of a generated program do one after another what its operations do, and the last one halts.
use Rattle.std.proofs.Common.{◌≡◌, ℕ, zero, suc, ◌+◌, ◌<◌, List, [], ◌∷◌, ◌++◌, length, map, drop, Bool, true, false, Some, None, refl, sym, ap, ◌∙◌, subst, arith}
use Rattle.std.specs.Prelude.{pos, get_or, set, slice_get, slice_index}
use Rattle.std.specs.List.{AllByRecursion}
use Rattle.std.specs.Option.{option_map}
use Rattle.std.proofs.lemmas.List.{get_or-set_other}
use Rattle.std.proofs.lemmas.Option.{slice_get-get_or, slice_get-map}
use Rattle.numbers.specs.Words.{sum_64}
use Rattle.rv_decode.specs.declared.ops.Reg.TheVariants.{Zero, R}
use Rattle.rv_decode.specs.declared.ops.RvOp.TheVariants.{Trap}
use Rattle.runs.specs.Turn.{Turn, Goes, Stops}
use Rattle.runs.specs.Machine.{Outcome, Next, Jump, Call, Ends, At, move, and_then, does}
use Rattle.runs.specs.Segments.{GoodOutcome, Lowers, lowered}
use Rattle.runs.specs.Numbers.{halt_address}
use Rattle.runs.specs.World.{World, beside, in_world}
use Rattle.runs.specs.Lockstep.{act_on}
use Rattle.runs.specs.Runs.{run_with_gas}
use Rattle.runs.proofs.RunLoop.{Reached, reaches_start, reaches_silently, reaches_end}
use Rattle.machine_state.specs.State.{State, register, IsState}
use Rattle.machine_state.specs.Ends.{Event, End, halt, no_host, rules}
use Rattle.pvm_ops.specs.declared.instr.Instr.{Instr}
use Rattle.pvm_ops.specs.Listing.{Listing}
use Rattle.pvm_ops.specs.Opcodes.{form_of}
use Rattle.pvm_ops.specs.Offsets.{has_offset}
use Rattle.pvm_ops.specs.BlockList.{BlockList}
use Rattle.pvm_ops.proofs.Table as table
use Rattle.blob_check.specs.Starts.{is_start}
use Rattle.pvm_machine.specs.Effect.{effect}
use Rattle.pvm_machine.specs.Step.{land, does_at, machine_step}
use Rattle.pvm_machine.specs.Laws.{EffectIsPlain}
use Rattle.pvm_machine.proofs.FetchedInstrs.{instr_is_there}
use Rattle.pvm_machine.proofs.Opcodes as operation
use Rattle.jump_table.specs.Assembly.{jump, offset, members_of, instr_position, start_of, code_of}
use Rattle.jump_table.specs.Laws.{is_some, IsAssemblable, AreEnded, Fetches, IsPlaced}
use Rattle.jump_table.proofs.Blocks.{block_member, member_has, start_first}
use Rattle.lift_blocks.specs.Operations.{Operation, Plain, Jalr}
use Rattle.lift_blocks.specs.Step.{op_does}
use Rattle.lift_blocks.specs.Fits.{FitsInstructions}
use Rattle.lower.specs.Lowering.{lower_op, offset_target, is_call}
use Rattle.lower.specs.Cutting.{or_zero, targeted_op, instr_does}
use Rattle.lower.specs.Laws.{AllAreLowered}
use Rattle.lower.proofs.Lists.{all_at}
use Rattle.generated_runs.specs.Operations.{operations}
use Rattle.generated_runs.specs.Lifted.{lifted_of, lifted}
use Rattle.generated_runs.specs.Program.{IsOneInstruction, instructions, program}
use Rattle.generated_runs.specs.Laws.{WordsAreInstructions}
use Rattle.generated_runs.proofs.Lifted.{last-operation}
use Rattle.generated_runs.proofs.Program.{all-listed, all-but_last, operations-count}

-- ---- what operations do

-- an operation goes on, and keeps the address in ra
record GoesOn (op : Operation ℕ) (s : State) : Type 0 where
  after : State
  is : op_does [] op s ≡ Next after
  same : register after 0 ≡ register s 0

kept : (s : State) (d value : ℕ) → get_or (set s.registers (9 + d) value) 0 0 ≡ get_or s.registers 0 0
kept s d value = get_or-set_other s.registers (9 + d) 0 value 0 (λ e. omega (arith, e))

each-goes_on : (seed count at : ℕ) (op : Operation ℕ) → at < count → slice_get (lifted seed count).ops at ≡ Some op → (s : State) → GoesOn op s
each-goes_on =
    all-but_last (λ op. (s : State) → GoesOn op s)
    (record {
      of_addi = λ d s immediate d_fits s_fits fits state. record { after = _; is = refl; same = kept state d _ };
      of_srliw = λ d s immediate d_fits s_fits fits state. record { after = _; is = refl; same = kept state d _ };
      of_registers = λ op d s t d_fits s_fits t_fits state. record { after = _; is = refl; same = kept state d _ };
    })

return-halts : (s : State) → register s 0 ≡ halt_address → op_does {Target = ℕ} [] (Jalr Zero (R 0) (pos 0) 0) s ≡ Ends (halt s)
return-halts s address = rw address refl

no-calls : (seed count : ℕ) → AllByRecursion (λ op. is_call op ≡ false) (lifted seed count).ops
no-calls =
    all-listed (λ op. is_call op ≡ false)
    (record { of_addi = λ d s immediate d_fits s_fits fits. refl; of_srliw = λ d s immediate d_fits s_fits fits. refl; of_registers = λ op d s t d_fits s_fits t_fits. refl })
    refl

-- ---- instructions by number

record Single (is : List Instr) : Type 0 where
  instr : Instr
  all : is ≡ instr ∷ []

single : (is : List Instr) → length is ≡ 1 → Single is
single [] one = absurd (omega (arith, one))
single (i ∷ []) one = record { instr = i; all = refl }
single (i ∷ j ∷ is) one = absurd (omega (arith, one))

-- where each operation is one instruction, that has the operation's number
lowered-at : (ops : List (Operation ℕ)) (at : ℕ) (op : Operation ℕ) (i : Instr) → ((k : ℕ) (op : Operation ℕ) → slice_get ops k ≡ Some op → IsOneInstruction op)
    → slice_get ops at ≡ Some op → lower_op [] op ≡ i ∷ [] → slice_get (lowered (lower_op []) ops) at ≡ Some i
lowered-at [] at op i each is one = absurd cc
lowered-at (o ∷ ops) zero op i each is one =
    let same : o ≡ op = cc in
    ap (λ (l : List Instr). slice_get (l ++ lowered (lower_op []) ops) 0) (ap (lower_op []) same ∙ one)
lowered-at (o ∷ ops) (suc at) op i each is one =
    let first = single (lower_op [] o) ((each 0 o refl).one []) in
    ap (λ (l : List Instr). slice_get (l ++ lowered (lower_op []) ops) (suc at)) first.all ∙ lowered-at ops at op i (λ k op is. each (suc k) op is) is one

-- the elements from an index on
from-there : {A : Type 0} (xs : List A) (at : ℕ) (x : A) → slice_get xs at ≡ Some x → drop at xs ≡ x ∷ drop (at + 1) xs
from-there [] at x is = absurd cc
from-there (y ∷ xs) zero x is = (let same : y ≡ x = cc in rw same refl)
from-there (y ∷ xs) (suc at) x is = (let next : suc (at + 1) ≡ suc at + 1 = omega arith in from-there xs at x is ∙ ap (λ (k : ℕ). x ∷ drop k (y ∷ xs)) next)

nothing-more : (o : Outcome ℕ State End) → and_then o (λ s. Next s) ≡ o
nothing-more (Next s) = refl
nothing-more (Jump target s) = refl
nothing-more (Call number s) = refl
nothing-more (Ends end) = refl

module _ (seed count : ℕ) (lengths : List ℕ) (words : WordsAreInstructions) (fit : (at : ℕ) (op : Operation ℕ) → slice_get (lifted seed count).ops at ≡ Some op → FitsInstructions op)
    (lower_each : AllAreLowered) (plain : EffectIsPlain) (assemblable : IsAssemblable (program seed count)) (ended : AreEnded (program seed count)) (placed : IsPlaced lengths (program seed count) (code_of lengths (program seed count))) where
  abbrev pub list : BlockList
  list = program seed count

  abbrev pub code : Listing
  code = code_of lengths list

  abbrev pub Data : Type 0
  Data = World State (Unit {0})

  abbrev pub turn : At ℕ Data → Turn (At ℕ Data) Event End
  turn = machine_step no_host [] code

  -- at the instruction with a number, with a state
  abbrev at-number : ℕ → State → At ℕ Data
  at-number number s = record { at = instr_position lengths list number; of = record { state = s; held = tt } }

  -- an instruction at a position does this
  abbrev turn_of : ℕ → Outcome ℕ State End → Turn (At ℕ Data) Event End
  turn_of next o = move (rules no_host) (λ p. p) next (beside tt (land (is_start code) o))

  -- what an operation does, its instruction does
  does-same : (op : Operation ℕ) (i : Instr) (target : ℕ) (s : State) → IsState s → lower_op [] op ≡ i ∷ [] → Lowers (op_does []) (instr_does []) IsState (targeted_op []) op → has_offset (form_of i.op) ≡ false
      → effect [] target i s ≡ op_does [] op s
  does-same op i target s good one lowers none =
      plain [] target (or_zero (offset_target [] op)) i s none
      ∙ sym (nothing-more (effect [] (or_zero (offset_target [] op)) i s))
      ∙ ap (λ (is : List Instr). does (instr_does []) (map (λ i. record { instr = i; target = offset_target [] op }) is) s) (sym one)
      ∙ lowers.same s good

  lowers-at : (number : ℕ) (op : Operation ℕ) → slice_get (lifted seed count).ops number ≡ Some op → Lowers (op_does []) (instr_does []) IsState (targeted_op []) op
  lowers-at number op is = lower_each [] op (fit number op is) (all_at (λ op. is_call op ≡ false) (lifted seed count).ops number op (no-calls seed count) is)

  -- the turn at the instruction with a number is what the operation with that number does
  turn-is : (number : ℕ) (op : Operation ℕ) (s : State) → IsState s → slice_get (lifted seed count).ops number ≡ Some op → turn (at-number number s) ≡ turn_of (instr_position lengths list (number + 1)) (op_does [] op s)
  turn-is number op s good is =
      let one = single (lower_op [] op) ((words seed count number op is).one []) in
      let there : slice_get (instructions seed count) number ≡ Some one.instr = lowered-at (lifted seed count).ops number op one.instr (words seed count) is one.all in
      let member = block_member lengths list 0 (record { instrs = instructions seed count; target = None }) number one.instr refl there in
      let here : 0 + number ≡ number = omega arith in
      let m : slice_get (members_of lengths list) number ≡ Some (record { instr = one.instr; len = slice_index lengths 0; target = None }) = ap (λ (k : ℕ). slice_get (members_of lengths list) k) (sym here) ∙ member in
      let f : Fetches code (instr_position lengths list number) one.instr (instr_position lengths list (number + 1)) = placed.instrs number (record { instr = one.instr; len = slice_index lengths 0; target = None }) m in
      let none : has_offset (form_of one.instr.op) ≡ false = by_offset (has_offset (form_of one.instr.op)) (member_has lengths list assemblable.blocks number (record { instr = one.instr; len = slice_index lengths 0; target = None }) m) in
      ap (λ x. act_on (rules no_host) (in_world (does_at [] code)) x (record { state = s; held = tt })) (instr_is_there code (instr_position lengths list number) one.instr (instr_position lengths list (number + 1)) f.marked f.known f.fetched)
      ∙ ap (turn_of (instr_position lengths list (number + 1))) (does-same op one.instr _ s good one.all (lowers-at number op is) none)
    where
      by_offset : (b : Bool) → (b ≡ true → is_some None ≡ true) → b ≡ false
      by_offset true has = absurd (let no = has refl in cc)
      by_offset false has = refl

  -- ---- the run

  -- A run that halts, with no gas left, as the operations from a number on do from a state.
  pub record Halts (gas : ℕ) (from : At ℕ Data) (number : ℕ) (s : State) (begun : ℕ) : Type 0 where
    pub last : State
    pub is : run_with_gas turn gas from ≡ record { events = []; end = Some (halt last); left = 0; begun = begun }
    pub computed : does (op_does []) (drop number (lifted seed count).ops) s ≡ Ends (halt last)

  -- what an operation leaves, those after it take
  earlier : (gas number begun : ℕ) (from : At ℕ Data) (op : Operation ℕ) (s after : State) → slice_get (lifted seed count).ops number ≡ Some op → op_does [] op s ≡ Next after
      → Halts gas from (number + 1) after begun → Halts gas from number s begun
  earlier gas number begun from op s after there goes rest = record {
    last = rest.last;
    is = rest.is;
    computed =
        ap (λ (ops : List (Operation ℕ)). does (op_does []) ops s) (from-there (lifted seed count).ops number op there)
        ∙ ap (λ (o : Outcome ℕ State End). and_then o (does (op_does []) (drop (number + 1) (lifted seed count).ops))) goes
        ∙ rest.computed;
  }

  runs-on : (n number begun gas : ℕ) (from : At ℕ Data) (s : State) → number + n ≡ count → IsState s → register s 0 ≡ halt_address
      → Reached turn gas from [] begun (suc n) (at-number number s) → Halts gas from number s (begun + n + 1)
  runs-on zero number begun gas from s all good address reached =
      let last : number ≡ count = omega (arith, all) in
      let there : slice_get (lifted seed count).ops count ≡ Some (Jalr Zero (R 0) (pos 0) 0) = slice_get-map lifted_of (operations seed count) count ∙ ap (option_map lifted_of) (last-operation seed count) in
      let stops : turn (at-number count s) ≡ Stops [] (halt s) = turn-is count (Jalr Zero (R 0) (pos 0) 0) s good there ∙ ap (turn_of (instr_position lengths list (count + 1))) (return-halts s address) in
      let reached_last : Reached turn gas from [] begun 1 (at-number count s) = subst (λ (number : ℕ). Reached turn gas from [] begun 1 (at-number number s)) last reached in
      let more : begun + 1 ≡ begun + 0 + 1 = omega arith in
      record {
        last = s;
        is = reaches_end turn gas from begun 0 (at-number count s) [] (halt s) reached_last stops ∙ ap (λ (begun : ℕ). record { events = []; end = Some (halt s); left = 0; begun = begun }) more;
        computed =
            ap (λ (k : ℕ). does (op_does []) (drop k (lifted seed count).ops) s) last
            ∙ ap (λ (ops : List (Operation ℕ)). does (op_does []) ops s) (from-there (lifted seed count).ops count (Jalr Zero (R 0) (pos 0) 0) there)
            ∙ ap (λ (o : Outcome ℕ State End). and_then o (does (op_does []) (drop (count + 1) (lifted seed count).ops))) (return-halts s address);
      }
  runs-on (suc n) number begun gas from s all good address reached =
      let before : number < count = omega (arith, all) in
      let op : Operation ℕ = get_or (lifted seed count).ops number (Plain Trap) in
      let there : slice_get (lifted seed count).ops number ≡ Some op = slice_get-get_or (lifted seed count).ops number (Plain Trap) (omega (arith, before, operations-count seed count)) in
      let goes = each-goes_on seed count number op before there s in
      let goes_on : turn (at-number number s) ≡ Goes [] 0 0 (at-number (number + 1) goes.after) = turn-is number op s good there ∙ ap (turn_of (instr_position lengths list (number + 1))) goes.is in
      let good_after : IsState goes.after = subst (GoodOutcome IsState) goes.is ((lowers-at number op there).stays s good) in
      let more : begun + 1 + n + 1 ≡ begun + suc n + 1 = omega arith in
      subst (Halts gas from number s) more
      (earlier gas number (begun + 1 + n + 1) from op s goes.after there goes.is
      (runs-on n (number + 1) (begun + 1) gas from goes.after (omega (arith, all)) good_after (goes.same ∙ address)
      (reaches_silently turn gas from begun (suc n) (at-number number s) (at-number (number + 1) goes.after) reached goes_on)))

  -- the entry's jump leads to the first instruction
  jump-does : (from to target : ℕ) (s : State) → target ≡ sum_64 from (offset from to) → does_at [] code (record { instr = jump (offset from to); at = from }) s ≡ land (is_start code) (Jump target s)
  unfolding effect
  jump-does from to target s is = rw (operation.jump, table.jump_form) (ap (λ (target : ℕ). land (is_start code) (Jump target s)) (sym is))

  enters : (s : State) → turn (record { at = 0; of = record { state = s; held = tt } }) ≡ Goes [] 0 0 (at-number 0 s)
  enters s =
      let f = placed.entries 0 0 refl in
      let to : ℕ = start_of lengths list 0 in
      let first : to ≡ 5 = start_first lengths list in
      let leads : to ≡ sum_64 0 (offset 0 to) = omega (arith, first) in
      let starts : is_start code to ≡ true = placed.starts ended 0 (omega arith) in
      ap (λ x. act_on (rules no_host) (in_world (does_at [] code)) x (record { state = s; held = tt })) (instr_is_there code 0 (jump (offset 0 to)) 5 f.marked f.known f.fetched)
      ∙ ap (λ o. move (rules no_host) (λ p. p) 5 (beside tt o)) (jump-does 0 to to s leads)
      ∙ rw starts refl

  -- from the entry the run spends a gas for the jump, for each word and for the return
  pub halts : (s : State) → IsState s → register s 0 ≡ halt_address → Halts (count + 2) (record { at = 0; of = record { state = s; held = tt } }) 0 s (count + 2)
  halts s good address =
      let from : At ℕ Data = record { at = 0; of = record { state = s; held = tt } } in
      let gas : count + 2 ≡ suc (suc count) = omega arith in
      let begun : 0 + 1 + count + 1 ≡ count + 2 = omega arith in
      let start : Reached turn (count + 2) from [] 0 (suc (suc count)) from = subst (λ (gas : ℕ). Reached turn (count + 2) from [] 0 gas from) gas (reaches_start turn (count + 2) from) in
      subst (Halts (count + 2) from 0 s) begun (runs-on count 0 (0 + 1) (count + 2) from s (omega arith) good address (reaches_silently turn (count + 2) from 0 (suc count) from (at-number 0 s) start (enters s)))
