-- A run leaves a constant in its register, and so does its one instruction.
use Rattle.std.proofs.Common.{◌≡◌, ℕ, ◌^◌, ◌<◌, Bool, true, false, List, [], ◌∷◌, ◌++◌, length, Option, Some, None, refl, sym, ap, ◌∙◌, arith}
use Rattle.std.specs.Prelude.{nat_eq}
use Rattle.std.specs.List.{AllByRecursion}
use Rattle.std.proofs.lemmas.Bool.{eqb-true, and_parts}
use Rattle.std.proofs.lemmas.List.{append-nil, get_or-set_same, set-set}
use Rattle.numbers.specs.Words.{word_of, sign_extend}
use Rattle.arithmetic.proofs.Results.{results_are_words}
use Rattle.rv_decode.specs.declared.ops.Reg.{Reg}
use Rattle.rv_decode.specs.declared.ops.Reg.TheVariants.{Zero, R}
use Rattle.rv_decode.specs.declared.ops.RvOp.{RvOp}
use Rattle.rv_decode.specs.declared.ops.RvOp.TheVariants as rv
use Rattle.runs.specs.Machine.{Outcome, Next, does}
use Rattle.runs.specs.Joined.{joined}
use Rattle.runs.specs.Segments.{NoCall, Lowers, AllLower}
use Rattle.machine_state.specs.State.{State, register, with_register, IsState}
use Rattle.machine_state.specs.Ends.{End}
use Rattle.machine_state.proofs.Registers.{registers_stay}
use Rattle.lift_blocks.specs.Arithmetic.{of_alu_imm, of_alu}
use Rattle.lift_blocks.specs.Operations.{Operation, Plain, Branch, Jal, Jalr, Pair, HostCall, Sbrk}
use Rattle.lift_blocks.specs.Step.{value, plain_does, op_does}
use Rattle.lift_blocks.specs.Fits.{PlainFits, FitsInstructions}
use Rattle.pvm_machine.specs.Effect.{effect}
use Rattle.pvm_machine.proofs.Opcodes as opcode
use Rattle.jump_table.specs.Laws.{IsPlainInstr}
use Rattle.lower.specs.Constants.{written, is_known, reads_known, begins_run, goes_on, IsRunOrOne, known_value, computed_plain, computed, value_of, constant_if, constant}
use Rattle.lower.specs.Lowering.{lower_op, run_instrs}
use Rattle.lower.specs.Cutting.{Targeted, targeted, instr_does}
use Rattle.lower.proofs.Lists.{all_front, all_back}
use Rattle.lower.proofs.Immediates.{word_fits, operand_is_signed}
use Rattle.lower.proofs.Single.{and_no_more}
use Rattle.lower.proofs.Beside.{targeted_alone}
use Rattle.lower.proofs.Encodable.{load_imm_is_plain, load_imm_64_is_plain}
use Rattle.lower.proofs.Cuts.{AllGoOn, begins_with, goes_with, Part, Run, Alone, which_part}

-- what is known of a state: what its register holds, if one is known
abbrev Knows : Option ℕ → ℕ → State → Type 0
Knows None v s = Unit {0}
Knows (Some d) v s = register s d ≡ v

reads : (known : Option ℕ) (rs : Reg) (v : ℕ) (s : State) → is_known known rs ≡ true → Knows known v s → value s rs ≡ known_value v rs
reads known Zero v s e k = refl
reads None (R n) v s e k = absurd cc
reads (Some d) (R n) v s e k = let same = eqb-true n d e in rw same k

-- an operation of a run leaves in its register what it computes of what is known
writes : (known : Option ℕ) (d v : ℕ) (op : RvOp) (s : State) → reads_known known op ≡ true → written op ≡ Some d → Knows known v s
    → ◌≡◌ {A = Outcome ℕ State End} (plain_does op s) (Next (with_register s d (computed_plain v op)))
writes known d v (rv.Lui Zero x) s r w k = absurd cc
writes known d v (rv.Lui (R n) x) s r w k = let same : n ≡ d = cc in rw same refl
writes known d v (rv.Auipc Zero x) s r w k = absurd cc
writes known d v (rv.Auipc (R n) x) s r w k = let same : n ≡ d = cc in rw same refl
writes known d v (rv.OpImm op Zero rs1 imm) s r w k = absurd cc
writes known d v (rv.OpImm op (R n) rs1 imm) s r w k = let same : n ≡ d = cc in rw (same, reads known rs1 v s r k) refl
writes known d v (rv.Op op Zero rs1 rs2) s r w k = absurd cc
writes known d v (rv.Op op (R n) rs1 rs2) s r w k =
    let same : n ≡ d = cc in
    let both = and_parts (is_known known rs1) (is_known known rs2) r in
    rw (same, reads known rs1 v s both.0 k, reads known rs2 v s both.1 k) refl
writes known d v (rv.Jal rd offset) s r w k = absurd cc
writes known d v (rv.Jalr rd rs1 imm) s r w k = absurd cc
writes known d v (rv.Branch cond rs1 rs2 offset) s r w k = absurd cc
writes known d v (rv.Load width rd rs1 imm) s r w k = absurd cc
writes known d v (rv.Store width rs1 rs2 imm) s r w k = absurd cc
writes known d v rv.Fence s r w k = absurd cc
writes known d v rv.Trap s r w k = absurd cc

-- and this is a word
known_fits : (v : ℕ) (rs : Reg) → v < 2 ^ 64 → known_value v rs < 2 ^ 64
known_fits v Zero fits = omega arith
known_fits v (R n) fits = fits

computes_word : (v : ℕ) (op : RvOp) → PlainFits op → v < 2 ^ 64 → computed_plain v op < 2 ^ 64
computes_word v (rv.Lui rd x) h fits = word_fits x h.1
computes_word v (rv.Auipc rd x) h fits = word_fits x h.1
computes_word v (rv.OpImm op rd rs1 imm) h fits = results_are_words (of_alu_imm op) (known_value v rs1) (word_of imm) (known_fits v rs1 fits) (word_fits imm (operand_is_signed op imm h.2))
computes_word v (rv.Op op rd rs1 rs2) h fits = results_are_words (of_alu op) (known_value v rs1) (known_value v rs2) (known_fits v rs1 fits) (known_fits v rs2 fits)
computes_word v (rv.Jal rd offset) h fits = fits
computes_word v (rv.Jalr rd rs1 imm) h fits = fits
computes_word v (rv.Branch cond rs1 rs2 offset) h fits = fits
computes_word v (rv.Load width rd rs1 imm) h fits = fits
computes_word v (rv.Store width rs1 rs2 imm) h fits = fits
computes_word v rv.Fence h fits = fits
computes_word v rv.Trap h fits = fits

computed_fits : (v : ℕ) (op : Operation ℕ) → FitsInstructions op → v < 2 ^ 64 → computed v op < 2 ^ 64
computed_fits v (Plain op) h fits = computes_word v op h fits
computed_fits v (Branch cond rs1 rs2 target) h fits = fits
computed_fits v (Jal rd link target) h fits = fits
computed_fits v (Jalr rd rs1 imm link) h fits = fits
computed_fits v (Pair temp rd link target) h fits = fits
computed_fits v (HostCall number) h fits = fits
computed_fits v Sbrk h fits = fits

pub value_fits : (v : ℕ) (ops : List (Operation ℕ)) → AllByRecursion FitsInstructions ops → v < 2 ^ 64 → value_of v ops < 2 ^ 64
value_fits v [] h fits = fits
value_fits v (op ∷ ops) h fits = value_fits (computed v op) ops h.1 (computed_fits v op h.0 fits)

-- the register of a run is one of the PVM
written_small : (op : RvOp) (d : ℕ) → PlainFits op → written op ≡ Some d → d < 13
written_small (rv.Lui Zero x) d h w = absurd cc
written_small (rv.Lui (R n) x) d h w = let same : n ≡ d = cc in rw (← same) h.0
written_small (rv.Auipc Zero x) d h w = absurd cc
written_small (rv.Auipc (R n) x) d h w = let same : n ≡ d = cc in rw (← same) h.0
written_small (rv.OpImm op Zero rs1 imm) d h w = absurd cc
written_small (rv.OpImm op (R n) rs1 imm) d h w = let same : n ≡ d = cc in rw (← same) h.0
written_small (rv.Op op Zero rs1 rs2) d h w = absurd cc
written_small (rv.Op op (R n) rs1 rs2) d h w = let same : n ≡ d = cc in rw (← same) h.0
written_small (rv.Jal rd offset) d h w = absurd cc
written_small (rv.Jalr rd rs1 imm) d h w = absurd cc
written_small (rv.Branch cond rs1 rs2 offset) d h w = absurd cc
written_small (rv.Load width rd rs1 imm) d h w = absurd cc
written_small (rv.Store width rs1 rs2 imm) d h w = absurd cc
written_small rv.Fence d h w = absurd cc
written_small rv.Trap d h w = absurd cc

pub run_small : (op : Operation ℕ) (d : ℕ) → FitsInstructions op → begins_run op ≡ Some d → d < 13
run_small (Plain op) d h b = written_small op d h (begins_with op d b).1
run_small (Branch cond rs1 rs2 target) d h b = absurd cc
run_small (Jal rd link target) d h b = absurd cc
run_small (Jalr rd rs1 imm link) d h b = absurd cc
run_small (Pair temp rd link target) d h b = absurd cc
run_small (HostCall number) d h b = absurd cc
run_small Sbrk d h b = absurd cc

-- the instruction of a constant can be placed
constant_plain : (b : Bool) (d v : ℕ) → nat_eq (sign_extend 32 v) v ≡ b → d < 13 → v < 2 ^ 64 → IsPlainInstr (constant_if b d v)
constant_plain true d v e small fits = load_imm_is_plain d v small (eqb-true (sign_extend 32 v) v e)
constant_plain false d v e small fits = load_imm_64_is_plain d v small fits

pub constant_is_plain : (d v : ℕ) → d < 13 → v < 2 ^ 64 → IsPlainInstr (constant d v)
constant_is_plain d v small fits = constant_plain (nat_eq (sign_extend 32 v) v) d v refl small fits

-- the instructions of a run, and of an operation in none
pub run_instr : (needed : List ℕ) (d : ℕ) (op : Operation ℕ) (run : List (Operation ℕ)) → begins_run op ≡ Some d → run_instrs needed (op ∷ run) ≡ constant d (value_of 0 (op ∷ run)) ∷ []
run_instr needed d op run b = rw b refl

pub alone_instrs : (needed : List ℕ) (op : Operation ℕ) → begins_run op ≡ None → run_instrs needed (op ∷ []) ≡ lower_op needed op
alone_instrs needed op b = rw b (append-nil (lower_op needed op))

module _ (needed : List ℕ) where
  begins_does : (d v : ℕ) (op : Operation ℕ) (s : State) → begins_run op ≡ Some d → ◌≡◌ {A = Outcome ℕ State End} (op_does needed op s) (Next (with_register s d (computed v op)))
  begins_does d v (Plain op) s b = let both = begins_with op d b in writes None d v op s both.0 both.1 tt
  begins_does d v (Branch cond rs1 rs2 target) s b = absurd cc
  begins_does d v (Jal rd link target) s b = absurd cc
  begins_does d v (Jalr rd rs1 imm link) s b = absurd cc
  begins_does d v (Pair temp rd link target) s b = absurd cc
  begins_does d v (HostCall number) s b = absurd cc
  begins_does d v Sbrk s b = absurd cc

  goes_does : (d : ℕ) (op : Operation ℕ) (s : State) → goes_on d op ≡ true → ◌≡◌ {A = Outcome ℕ State End} (op_does needed op s) (Next (with_register s d (computed (register s d) op)))
  goes_does d (Plain op) s b = let both = goes_with op d b in writes (Some d) d (register s d) op s both.0 both.1 refl
  goes_does d (Branch cond rs1 rs2 target) s b = absurd cc
  goes_does d (Jal rd link target) s b = absurd cc
  goes_does d (Jalr rd rs1 imm link) s b = absurd cc
  goes_does d (Pair temp rd link target) s b = absurd cc
  goes_does d (HostCall number) s b = absurd cc
  goes_does d Sbrk s b = absurd cc

  -- the rest of a run, from a known value of its register
  rest_does : (d v : ℕ) (ops : List (Operation ℕ)) (s : State) → AllGoOn d ops → d < 13 → IsState s → ◌≡◌ {A = Outcome ℕ State End} (does (op_does needed) ops (with_register s d v)) (Next (with_register s d (value_of v ops)))
  rest_does d v [] s h small g = refl
  rest_does d v (op ∷ ops) s h small g =
      let there : register (with_register s d v) d ≡ v = get_or-set_same s.registers d v 0 (omega (arith, g.registers.count)) in
      let one = goes_does d op (with_register s d v) h.0 in
      rw (one, there, set-set s.registers d v (computed v op)) (rest_does d (computed v op) ops s h.1 small g)

  -- a whole run
  pub run_does : (d : ℕ) (op : Operation ℕ) (run : List (Operation ℕ)) (s : State) → begins_run op ≡ Some d → AllGoOn d run → d < 13 → IsState s
      → ◌≡◌ {A = Outcome ℕ State End} (does (op_does needed) (op ∷ run) s) (Next (with_register s d (value_of 0 (op ∷ run))))
  run_does d op run s b h small g = rw (begins_does d 0 op s b) (rest_does d (computed 0 op) run s h small g)

  -- no operation of a run calls the host
  rest_silent : (d : ℕ) (ops : List (Operation ℕ)) (s : State) → AllGoOn d ops → NoCall (does (op_does needed) ops s)
  rest_silent d [] s h = tt
  rest_silent d (op ∷ ops) s h = rw (goes_does d op s h.0) (rest_silent d ops (with_register s d (computed (register s d) op)) h.1)

  run_silent : (d : ℕ) (op : Operation ℕ) (run : List (Operation ℕ)) (s : State) → begins_run op ≡ Some d → AllGoOn d run → NoCall (does (op_does needed) (op ∷ run) s)
  run_silent d op run s b h = rw (begins_does d 0 op s b) (rest_silent d run (with_register s d (computed 0 op)) h)

  -- and what the instruction of a constant does
  constant_does : (b : Bool) (target : Option ℕ) (d v : ℕ) (s : State) → ◌≡◌ {A = Outcome ℕ State End} (instr_does needed (record { instr = constant_if b d v; target = target }) s) (Next (with_register s d v))
  unfolding effect
  constant_does true target d v s = rw opcode.load_imm refl
  constant_does false target d v s = rw opcode.load_imm_64 refl

  -- what is asked of a part: its instructions do what its operations do
  abbrev pub part_targeted : Option ℕ → List (Operation ℕ) → List Targeted
  part_targeted target part = targeted target (run_instrs needed part)

  abbrev LowersPart : Option ℕ → List (Operation ℕ) → Type 0
  LowersPart target part = Lowers (does (op_does needed)) (instr_does needed) IsState (part_targeted target) part

  run_lowers : (target : Option ℕ) (d : ℕ) (op : Operation ℕ) (run : List (Operation ℕ)) → begins_run op ≡ Some d → AllGoOn d run → AllByRecursion FitsInstructions (op ∷ run) → LowersPart target (op ∷ run)
  run_lowers target d op run b h fits =
      let v = value_of 0 (op ∷ run) in
      let small = run_small op d fits.0 b in
      let one : part_targeted target (op ∷ run) ≡ record { instr = constant d v; target = target } ∷ [] = ap (targeted target) (run_instr needed d op run b) in
      let few : length (part_targeted target (op ∷ run)) ≡ 1 = ap length one in
      record {
        same = λ s g.
            ap (λ is. does (instr_does needed) is s) one
            ∙ and_no_more (instr_does needed (record { instr = constant d v; target = target }) s)
            ∙ constant_does (nat_eq (sign_extend 32 v) v) target d v s
            ∙ sym (run_does d op run s b h small g);
        three = omega arith;
        silent = λ s. run_silent d op run s b h;
        stays = λ s g. rw (run_does d op run s b h small g) (registers_stay s d v g (value_fits 0 (op ∷ run) fits (omega arith)));
      }

  alone_lowers : (target : Option ℕ) (op : Operation ℕ) → begins_run op ≡ None → Lowers (op_does needed) (instr_does needed) IsState (targeted_alone needed target) op → LowersPart target (op ∷ [])
  alone_lowers target op b h =
      let one : part_targeted target (op ∷ []) ≡ targeted_alone needed target op = ap (targeted target) (alone_instrs needed op b) in
      record {
        same = λ s g. ap (λ is. does (instr_does needed) is s) one ∙ h.same s g ∙ sym (and_no_more (op_does needed op s));
        three = rw one h.three;
        silent = λ s. rw (and_no_more (op_does needed op s)) (h.silent s);
        stays = λ s g. rw (and_no_more (op_does needed op s)) (h.stays s g);
      }

  lower_back : (target : Option ℕ) (a b : List (Operation ℕ)) → AllLower (op_does needed) (instr_does needed) IsState (targeted_alone needed target) (a ++ b) → AllLower (op_does needed) (instr_does needed) IsState (targeted_alone needed target) b
  lower_back target [] b h = h
  lower_back target (x ∷ a) b h = lower_back target a b h.1

  -- each part of a cut, if each operation is lowered alone
  pub parts_lower : (target : Option ℕ) (parts : List (List (Operation ℕ))) → AllByRecursion IsRunOrOne parts → AllByRecursion FitsInstructions (joined parts)
      → AllLower (op_does needed) (instr_does needed) IsState (targeted_alone needed target) (joined parts)
      → AllLower (does (op_does needed)) (instr_does needed) IsState (part_targeted target) parts
  parts_lower target [] each fits h = tt
  parts_lower target (part ∷ parts) each fits h = by_part part (which_part part each.0) fits h (λ f l. parts_lower target parts each.1 f l)
    where
      by_part : (part : List (Operation ℕ)) → Part part → AllByRecursion FitsInstructions (part ++ joined parts) → AllLower (op_does needed) (instr_does needed) IsState (targeted_alone needed target) (part ++ joined parts)
          → (AllByRecursion FitsInstructions (joined parts) → AllLower (op_does needed) (instr_does needed) IsState (targeted_alone needed target) (joined parts) → AllLower (does (op_does needed)) (instr_does needed) IsState (part_targeted target) parts)
          → AllLower (does (op_does needed)) (instr_does needed) IsState (part_targeted target) (part ∷ parts)
      by_part _ (Alone op b) fits h rest = (alone_lowers target op b h.0, rest fits.1 h.1)
      by_part _ (Run d op run b go) fits h rest = (run_lowers target d op run b go (all_front FitsInstructions (op ∷ run) (joined parts) fits), rest (all_back FitsInstructions (op ∷ run) (joined parts) fits) (lower_back target (op ∷ run) (joined parts) h))
