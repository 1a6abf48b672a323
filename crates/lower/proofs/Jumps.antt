-- The instructions of branches and jumps do what these do, by numbers of operations and of instructions.
use Rattle.std.proofs.Common.{◌≡◌, ℕ, zero, suc, ◌+◌, ◌%◌, ◌^◌, ◌≤◌, Bool, true, false, ℤ, pos, negsuc, List, [], ◌∷◌, length, Option, Some, None, refl, sym, ap, ◌∙◌, arith}
use Rattle.std.specs.Prelude.{nat_eq, if◌then◌else◌}
use Rattle.std.proofs.lemmas.Bool.{eqb-true, ne_eqb}
use Rattle.std.proofs.lemmas.List.{set-set}
use Rattle.numbers.specs.Words.{word_of}
use Rattle.arithmetic.specs.Operations.{holds}
use Rattle.rv_decode.specs.declared.ops.Cond.{Cond}
use Rattle.rv_decode.specs.declared.ops.Cond.TheVariants.{Eq, Ne, Lt, Ge, Ltu, Geu}
use Rattle.rv_decode.specs.declared.ops.Reg.{Reg}
use Rattle.rv_decode.specs.declared.ops.Reg.TheVariants.{Zero, R}
use Rattle.rv_decode.specs.Operations.{IsSigned}
use Rattle.runs.specs.Machine.{Outcome, Next, Jump, Call, does}
use Rattle.runs.specs.Numbers.{halt_address, named, to_named, jump_by}
use Rattle.runs.specs.Segments.{NoCall, GoodOutcome}
use Rattle.machine_state.specs.State.{State, register, with_register, IsState}
use Rattle.machine_state.specs.Ends.{End, halt, panic}
use Rattle.machine_state.specs.Heap as heap
use Rattle.machine_state.proofs.Registers.{registers_stay}
use Rattle.machine_state.proofs.Heap.{sbrk_is_good}
use Rattle.lift_blocks.specs.Arithmetic.{of_cond}
use Rattle.lift_blocks.specs.Operations.{Operation, Plain, Branch, Jal, Jalr, Pair, HostCall, Sbrk}
use Rattle.lift_blocks.specs.Step.{with_value, op_does}
use Rattle.pvm_ops.specs.declared.instr.Instr.{Instr}
use Rattle.pvm_machine.specs.Effect.{effect}
use Rattle.pvm_machine.proofs.Opcodes as opcode
use Rattle.lower.specs.Instructions.{rro, rxo, ecalli, sbrk}
use Rattle.lower.specs.Lowering.{branch_opcode, branch_zero_opcode, zero_branch_opcode, jump_if, jump_with, jump_to, jump_by_register, clears_if, pair, lower_op, target_if, offset_target}
use Rattle.lower.specs.Cutting.{or_zero, targeted, instr_does}
use Rattle.lift_blocks.specs.Fits.{IsLink}
use Rattle.lower.specs.Laws.{AllAreLowered, CallsAreLowered}
use Rattle.lower.proofs.Single.{and_no_more, LowersOp}
use Rattle.lower.proofs.Effects.{jump_no_call, jump_stays, lowers_plain}

-- two numbers are the same in either order
equal_zero : (x : ℕ) → nat_eq x 0 ≡ nat_eq 0 x
equal_zero zero = refl
equal_zero (suc x) = ne_eqb (suc x) 0 (λ e. absurd (omega (arith, e))) ∙ sym (ne_eqb 0 (suc x) (λ e. absurd (omega (arith, e))))

-- a register that is written, or x0, leaves a good state
value_stays : (s : State) (rd : Reg) (x : ℕ) → IsState s → IsLink rd x → IsState (with_value s rd x)
value_stays s Zero x g fits = g
value_stays s (R d) x g fits = registers_stay s d x g (omega arith)

zero_is_link : (rd : Reg) → IsLink rd 0
zero_is_link Zero = tt
zero_is_link (R d) = omega arith

-- no link changes how a panic ends
panics_same : (s : State) (rd : Reg) (x : ℕ) → panic (with_value s rd x) ≡ panic s
panics_same s Zero x = refl
panics_same s (R d) x = refl

module _ (needed : List ℕ) where
  -- an operation with one instruction
  lowers_alone : (op : Operation ℕ) (i : Instr) → lower_op needed op ≡ i ∷ []
      → ((s : State) → IsState s → ◌≡◌ {A = Outcome ℕ State End} (effect needed (or_zero (offset_target needed op)) i s) (op_does needed op s))
      → ((s : State) → NoCall (op_does needed op s)) → ((s : State) → IsState s → GoodOutcome IsState (op_does needed op s)) → LowersOp needed op
  lowers_alone op i is same silent stays =
      let few : length (targeted (offset_target needed op) (i ∷ [])) ≤ 3 = omega arith in
      record {
        same = λ s g. ap (λ is. does (instr_does needed) (targeted (offset_target needed op) is) s) is ∙ and_no_more (effect needed (or_zero (offset_target needed op)) i s) ∙ same s g;
        three = rw is few;
        silent = silent;
        stays = stays;
      }

  -- a branch calls nothing, and keeps the state
  choice_silent : (b : Bool) (target : ℕ) (s : State) → NoCall {Target = ℕ} {Data = State} {End = End} (if b then Jump target s else Next s)
  choice_silent true target s = tt
  choice_silent false target s = tt

  choice_stays : (b : Bool) (target : ℕ) (s : State) → IsState s → GoodOutcome {Target = ℕ} {Data = State} {End = End} IsState (if b then Jump target s else Next s)
  choice_stays true target s g = g
  choice_stays false target s g = g

  -- what the instructions of branches do
  branch_does : (cond : Cond) (a b target : ℕ) (s : State) → ◌≡◌ {A = Outcome ℕ State End} (effect needed target (rro (branch_opcode cond) a b) s) (if holds (of_cond cond) (register s a) (register s b) then Jump target s else Next s)
  unfolding effect
  branch_does Eq a b target s = rw opcode.branch_eq refl
  branch_does Ne a b target s = rw opcode.branch_ne refl
  branch_does Lt a b target s = rw opcode.branch_lt_s refl
  branch_does Ge a b target s = rw opcode.branch_ge_s refl
  branch_does Ltu a b target s = rw opcode.branch_lt_u refl
  branch_does Geu a b target s = rw opcode.branch_ge_u refl

  branch_zero_does : (cond : Cond) (a target : ℕ) (s : State) → ◌≡◌ {A = Outcome ℕ State End} (effect needed target (rxo (branch_zero_opcode cond) a 0) s) (if holds (of_cond cond) (register s a) 0 then Jump target s else Next s)
  unfolding effect
  branch_zero_does Eq a target s = rw opcode.branch_eq_imm refl
  branch_zero_does Ne a target s = rw opcode.branch_ne_imm refl
  branch_zero_does Lt a target s = rw opcode.branch_lt_s_imm refl
  branch_zero_does Ge a target s = rw opcode.branch_ge_s_imm refl
  branch_zero_does Ltu a target s = rw opcode.branch_lt_u_imm refl
  branch_zero_does Geu a target s = rw opcode.branch_ge_u_imm refl

  zero_branch_does : (cond : Cond) (b target : ℕ) (s : State) → ◌≡◌ {A = Outcome ℕ State End} (effect needed target (rxo (zero_branch_opcode cond) b 0) s) (if holds (of_cond cond) 0 (register s b) then Jump target s else Next s)
  unfolding effect
  zero_branch_does Eq b target s = let turned = equal_zero (register s b) in rw (opcode.branch_eq_imm, turned) refl
  zero_branch_does Ne b target s = let turned = equal_zero (register s b) in rw (opcode.branch_ne_imm, turned) refl
  zero_branch_does Lt b target s = rw opcode.branch_gt_s_imm refl
  zero_branch_does Ge b target s = rw opcode.branch_le_s_imm refl
  zero_branch_does Ltu b target s = rw opcode.branch_gt_u_imm refl
  zero_branch_does Geu b target s = rw opcode.branch_le_u_imm refl

  -- a branch of x0 and x0 is a jump or goes on
  known_does : (b : Bool) (target : ℕ) (s : State) → ◌≡◌ {A = Outcome ℕ State End} (effect needed (or_zero (target_if b target)) (jump_if b) s) (if b then Jump target s else Next s)
  unfolding effect
  known_does true target s = rw opcode.jump refl
  known_does false target s = rw opcode.fallthrough refl

  lowers_branch : (cond : Cond) (rs1 rs2 : Reg) (target : ℕ) → LowersOp needed (Branch cond rs1 rs2 target)
  lowers_branch cond Zero Zero target = lowers_alone (Branch cond Zero Zero target) (jump_if (holds (of_cond cond) 0 0)) refl (λ s g. known_does (holds (of_cond cond) 0 0) target s) (λ s. choice_silent (holds (of_cond cond) 0 0) target s) (λ s g. choice_stays (holds (of_cond cond) 0 0) target s g)
  lowers_branch cond Zero (R b) target = lowers_alone (Branch cond Zero (R b) target) (rxo (zero_branch_opcode cond) b 0) refl (λ s g. zero_branch_does cond b target s) (λ s. choice_silent (holds (of_cond cond) 0 (register s b)) target s) (λ s g. choice_stays (holds (of_cond cond) 0 (register s b)) target s g)
  lowers_branch cond (R a) Zero target = lowers_alone (Branch cond (R a) Zero target) (rxo (branch_zero_opcode cond) a 0) refl (λ s g. branch_zero_does cond a target s) (λ s. choice_silent (holds (of_cond cond) (register s a) 0) target s) (λ s g. choice_stays (holds (of_cond cond) (register s a) 0) target s g)
  lowers_branch cond (R a) (R b) target = lowers_alone (Branch cond (R a) (R b) target) (rro (branch_opcode cond) a b) refl (λ s g. branch_does cond a b target s) (λ s. choice_silent (holds (of_cond cond) (register s a) (register s b)) target s) (λ s g. choice_stays (holds (of_cond cond) (register s a) (register s b)) target s g)

  -- a jump with a link
  link_does : (rd : Reg) (link target : ℕ) (s : State) → ◌≡◌ {A = Outcome ℕ State End} (effect needed target (jump_with rd link) s) (Jump target (with_value s rd link))
  unfolding effect
  link_does Zero link target s = rw opcode.jump refl
  link_does (R d) link target s = rw opcode.load_imm_jump refl

  lowers_jal : (rd : Reg) (link target : ℕ) → IsLink rd link → LowersOp needed (Jal rd link target)
  lowers_jal rd link target small = lowers_alone (Jal rd link target) (jump_with rd link) refl (λ s g. link_does rd link target s) (λ s. tt) (λ s g. value_stays s rd link g small)

  -- a jump to what a constant names
  named_does : (o : Option ℕ) (rd : Reg) (link : ℕ) (s : State) → ◌≡◌ {A = Outcome ℕ State End} (effect needed (or_zero o) (jump_to o rd link) s) (to_named panic o (with_value s rd link))
  unfolding effect
  named_does None rd link s = rw (opcode.trap, panics_same s rd link) refl
  named_does (Some target) rd link s = link_does rd link target s

  -- no immediate of 12 bits halts
  halts_not : (imm : ℤ) → IsSigned 12 imm → nat_eq (word_of imm % 2 ^ 32) halt_address ≡ false
  halts_not (pos n) h = ne_eqb (word_of (pos n) % 2 ^ 32) halt_address (λ e. absurd (omega (arith, e, h)))
  halts_not (negsuc n) h = ne_eqb (word_of (negsuc n) % 2 ^ 32) halt_address (λ e. absurd (omega (arith, e, h)))

  constant_does : (rd : Reg) (imm : ℤ) (link : ℕ) (s : State) → IsSigned 12 imm → ◌≡◌ {A = Outcome ℕ State End} (effect needed (or_zero (named needed (word_of imm % 2 ^ 32))) (jump_to (named needed (word_of imm % 2 ^ 32)) rd link) s) (jump_by halt panic needed ((0 + word_of imm) % 2 ^ 32) (with_value s rd link))
  constant_does rd imm link s h =
      let n : 0 + word_of imm ≡ word_of imm = omega arith in
      rw (n, halts_not imm h) (named_does (named needed (word_of imm % 2 ^ 32)) rd link s)

  lowers_constant : (rd : Reg) (imm : ℤ) (link : ℕ) → IsSigned 12 imm → IsLink rd link → LowersOp needed (Jalr rd Zero imm link)
  lowers_constant rd imm link h small =
      lowers_alone (Jalr rd Zero imm link) (jump_to (named needed (word_of imm % 2 ^ 32)) rd link) refl (λ s g. constant_does rd imm link s h)
      (λ s. jump_no_call needed ((0 + word_of imm) % 2 ^ 32) (with_value s rd link))
      (λ s g. jump_stays needed ((0 + word_of imm) % 2 ^ 32) (with_value s rd link) (value_stays s rd link g small))

  -- a jump by a register
  register_does : (rd : Reg) (a x link : ℕ) (s : State) → ◌≡◌ {A = Outcome ℕ State End} (effect needed 0 (jump_by_register rd a x link) s) (jump_by halt panic needed ((register s a + x) % 2 ^ 32) (with_value s rd link))
  unfolding effect
  register_does Zero a x link s = rw opcode.jump_ind refl
  register_does (R d) a x link s = rw opcode.load_imm_jump_ind refl

  lowers_register : (rd : Reg) (a : ℕ) (imm : ℤ) (link : ℕ) → IsLink rd link → LowersOp needed (Jalr rd (R a) imm link)
  lowers_register rd a imm link small =
      lowers_alone (Jalr rd (R a) imm link) (jump_by_register rd a (word_of imm) link) refl (λ s g. register_does rd a (word_of imm) link s)
      (λ s. jump_no_call needed ((register s a + word_of imm) % 2 ^ 32) (with_value s rd link))
      (λ s g. jump_stays needed ((register s a + word_of imm) % 2 ^ 32) (with_value s rd link) (value_stays s rd link g small))

  -- a pair
  pair_does : (temp rd : Reg) (link target : ℕ) (s : State) → ◌≡◌ {A = Outcome ℕ State End} (does (instr_does needed) (targeted (Some target) (pair temp rd link)) s) (Jump target (with_value (with_value s temp 0) rd link))
  unfolding effect
  pair_does Zero rd link target s = and_no_more (effect needed target (jump_with rd link) s) ∙ link_does rd link target s
  pair_does (R t) Zero link target s = rw opcode.load_imm_jump refl
  pair_does (R t) (R d) link target s = by_test (nat_eq t d) refl
    where
      by_test : (b : Bool) → nat_eq t d ≡ b → ◌≡◌ {A = Outcome ℕ State End} (does (instr_does needed) (targeted (Some target) (clears_if b t d link)) s) (Jump target (with_register (with_register s t 0) d link))
      by_test true e = let same : t ≡ d = eqb-true t d e in rw (same, opcode.load_imm_jump, set-set s.registers d 0 link) refl
      by_test false e = rw (opcode.load_imm, opcode.load_imm_jump) refl

  pair_few : (temp rd : Reg) (link target : ℕ) → length (targeted (Some target) (pair temp rd link)) ≤ 3
  pair_few Zero rd link target = omega arith
  pair_few (R t) Zero link target = omega arith
  pair_few (R t) (R d) link target = by_test (nat_eq t d)
    where
      by_test : (b : Bool) → length (targeted (Some target) (clears_if b t d link)) ≤ 3
      by_test true = omega arith
      by_test false = omega arith

  lowers_pair : (temp rd : Reg) (link target : ℕ) → IsLink rd link → LowersOp needed (Pair temp rd link target)
  lowers_pair temp rd link target small = record {
    same = λ s g. pair_does temp rd link target s;
    three = pair_few temp rd link target;
    silent = λ s. tt;
    stays = λ s g. value_stays (with_value s temp 0) rd link (value_stays s temp 0 g (zero_is_link temp)) small;
  }

  -- sbrk
  sbrk_does : (s : State) → ◌≡◌ {A = Outcome ℕ State End} (effect needed 0 (sbrk 7 7) s) (Next (heap.sbrk s 7 (register s 7)))
  unfolding effect
  sbrk_does s = rw opcode.sbrk refl

  lowers_sbrk : LowersOp needed Sbrk
  lowers_sbrk = lowers_alone Sbrk (sbrk 7 7) refl (λ s g. sbrk_does s) (λ s. tt) (λ s g. sbrk_is_good s 7 (register s 7) g)

-- every operation but a call of the host
pub all_are_lowered : AllAreLowered
all_are_lowered needed (Plain op) h calls = lowers_plain needed op h
all_are_lowered needed (Branch cond rs1 rs2 target) h calls = lowers_branch needed cond rs1 rs2 target
all_are_lowered needed (Jal rd link target) h calls = lowers_jal needed rd link target h.1
all_are_lowered needed (Jalr rd Zero imm link) h calls = lowers_constant needed rd imm link h.1 h.2
all_are_lowered needed (Jalr rd (R a) imm link) h calls = lowers_register needed rd a imm link h.3
all_are_lowered needed (Pair temp rd link target) h calls = lowers_pair needed temp rd link target h.2
all_are_lowered needed (HostCall number) h calls = absurd cc
all_are_lowered needed Sbrk h calls = lowers_sbrk needed

-- and a call, which has one instruction
pub call_does : (needed : List ℕ) (target : Option ℕ) (number : ℕ) (s : State) → ◌≡◌ {A = Outcome ℕ State End} (instr_does needed (record { instr = ecalli number; target = target }) s) (Call number s)
unfolding effect
call_does needed target number s = rw opcode.ecalli refl

pub calls_are_lowered : CallsAreLowered
calls_are_lowered needed number s = and_no_more (instr_does needed (record { instr = ecalli number; target = None }) s) ∙ call_does needed None number s
