-- The instructions of an operation do what it does.
use Rattle.std.proofs.Common.{◌≡◌, ℕ, ◌-◌, ◌^◌, ◌<◌, ◌≤◌, Bool, true, false, ℤ, List, [], ◌∷◌, length, Option, Some, None, refl, sym, ap, ◌∙◌, subst, arith}
use Rattle.std.specs.Prelude.{nat_eq, if◌then◌else◌}
use Rattle.std.proofs.lemmas.List.{get_or-set_same, set-set}
use Rattle.numbers.specs.Words.{word_of}
use Rattle.arithmetic.specs.Words.{add_32, sub_64, set_lt_u}
use Rattle.arithmetic.specs.Operations.{binary}
use Rattle.arithmetic.proofs.Results.{results_are_words}
use Rattle.rv_decode.specs.declared.ops.Reg.{Reg}
use Rattle.rv_decode.specs.declared.ops.Reg.TheVariants.{Zero, R}
use Rattle.rv_decode.specs.declared.ops.AluImm.{AluImm}
use Rattle.rv_decode.specs.declared.ops.AluImm.TheVariants.{Addi, Slti, Sltiu, Xori, Ori, Andi, Slli, Srli, Srai, Addiw, Slliw, Srliw, Sraiw}
use Rattle.rv_decode.specs.declared.ops.Alu.{Alu}
use Rattle.rv_decode.specs.declared.ops.Alu.TheVariants.{Add, Sub, Sll, Slt, Sltu, Xor, Srl, Sra, Or, And, Mul, Mulh, Mulhsu, Mulhu, Div, Divu, Rem, Remu, Addw, Subw, Sllw, Srlw, Sraw, Mulw, Divw, Divuw, Remw, Remuw}
use Rattle.rv_decode.specs.declared.ops.RvOp.{RvOp}
use Rattle.rv_decode.specs.declared.ops.RvOp.TheVariants as rv
use Rattle.rv_decode.specs.Operations.{IsReg}
use Rattle.runs.specs.Machine.{Outcome, Next, Ends}
use Rattle.runs.specs.Numbers.{halt_address, named, to_named, jump_by}
use Rattle.runs.specs.Segments.{NoCall, GoodOutcome}
use Rattle.machine_state.specs.State.{State, register, with_register, IsState}
use Rattle.machine_state.specs.Ends.{End, halt, panic}
use Rattle.machine_state.proofs.Registers.{registers_stay, register_fits}
use Rattle.lift_blocks.specs.Arithmetic.{of_alu_imm, of_alu}
use Rattle.lift_blocks.specs.Operations.{Plain}
use Rattle.lift_blocks.specs.Step.{plain_does}
use Rattle.pvm_ops.specs.declared.instr.Instr.{Instr}
use Rattle.pvm_machine.specs.Effect.{effect}
use Rattle.pvm_machine.proofs.Opcodes as opcode
use Rattle.lift_blocks.specs.Fits.{IsOperand}
use Rattle.lower.specs.Instructions.{rrx, rrr, load_imm, move_reg, add_imm_32, set_lt_u_imm, set_lt_s_imm, neg_add_imm_32, set_gt_u_imm, set_gt_s_imm, neg_add_imm_64}
use Rattle.lower.specs.Plain.{alu_imm_opcode, alu_opcode, with_second_zero, with_first_zero, lower_plain, IsLowerable}
use Rattle.lower.proofs.Rows.{sum_zero_r, sub_zero_r, or_zero, xor_zero, shlo_l_zero_r, shlo_r_zero_r, shar_r_zero_r, and_zero, mul_zero_r, upper_s_s_zero_r, upper_s_u_zero_r, upper_u_u_zero_r, mul_32_zero_r, less_zero, sub_32_zero_r, rem_32_zero_r, shlo_l_32_zero_r, shlo_r_32_zero_r, shar_r_32_zero_r, sum_zero_l, zero_shlo_l, zero_shlo_r, zero_shar_r, zero_mul, zero_upper_s_s, zero_upper_s_u, zero_upper_u_u, zero_mul_32, zero_add_32, zero_rem_s, zero_rem_u, zero_rem_s_32, zero_rem_u_32, zero_shlo_l_32, zero_shlo_r_32, zero_shar_r_32, zero_div_u, zero_div_s, zero_div_u_32, zero_div_s_32}
use Rattle.lower.proofs.Accesses.{lowers_load, lowers_store}
use Rattle.lower.proofs.Single.{and_no_more, LowersOp, run_alone, few_targeted}
use Rattle.lower.proofs.Immediates.{word_fits, operand_is_signed}

-- the immediate of an operation is a word
operand_fits : (op : AluImm) (imm : ℤ) → IsOperand op imm → word_of imm < 2 ^ 64
operand_fits op imm h = word_fits imm (operand_is_signed op imm h)

-- a register that is written twice keeps the second value, which may depend on the first
twice : (s : State) (d x : ℕ) (f : ℕ → ℕ) → IsState s → d < 13 → ◌≡◌ {A = Outcome ℕ State End} (Next (with_register (with_register s d x) d (f (register (with_register s d x) d)))) (Next (with_register s d (f x)))
twice s d x f g small =
    let there = get_or-set_same s.registers d x 0 (omega (arith, g.registers.count)) in
    rw (there, set-set s.registers d x (f x)) refl

thrice : (s : State) (d x : ℕ) (f h : ℕ → ℕ) → IsState s → d < 13 → ◌≡◌ {A = Outcome ℕ State End} (Next (with_register (with_register (with_register s d x) d (f (register (with_register s d x) d))) d (h (register (with_register (with_register s d x) d (f (register (with_register s d x) d))) d)))) (Next (with_register s d (h (f x))))
thrice s d x f h g small =
    let there = get_or-set_same s.registers d x 0 (omega (arith, g.registers.count)) in
    let again = get_or-set_same s.registers d (f x) 0 (omega (arith, g.registers.count)) in
    rw (there, set-set s.registers d x (f x), again, set-set s.registers d (f x) (h (f x))) refl

module _ (needed : List ℕ) where
  -- a jump to what a number names is no call
  named_no_call : (o : Option ℕ) (s : State) → NoCall (to_named panic o s)
  named_no_call None s = tt
  named_no_call (Some target) s = tt

  -- nor is a jump by a number
  pub jump_no_call : (number : ℕ) (s : State) → NoCall (jump_by halt panic needed number s)
  jump_no_call number s = by_halt (nat_eq number halt_address)
    where
      by_halt : (b : Bool) → NoCall (if b then Ends (halt s) else to_named panic (named needed number) s)
      by_halt true = tt
      by_halt false = named_no_call (named needed number) s

  -- a jump to what a number names keeps the state
  named_stays : (o : Option ℕ) (s : State) → IsState s → GoodOutcome IsState (to_named panic o s)
  named_stays None s g = tt
  named_stays (Some target) s g = g

  -- and so does a jump by a number
  pub jump_stays : (number : ℕ) (s : State) → IsState s → GoodOutcome IsState (jump_by halt panic needed number s)
  jump_stays number s g = by_halt (nat_eq number halt_address)
    where
      by_halt : (b : Bool) → GoodOutcome IsState (if b then Ends (halt s) else to_named panic (named needed number) s)
      by_halt true = tt
      by_halt false = named_stays (named needed number) s g

  -- a register takes a value
  abbrev put : State → ℕ → ℕ → Outcome ℕ State End
  put s d x = Next (with_register s d x)

  none_are_few : length {A = Instr} [] ≤ 3
  none_are_few = omega arith

  -- an operation that puts a word into a register, where at most three instructions do
  puts : (op : RvOp) (d : ℕ) (f : State → ℕ) → length (lower_plain op) ≤ 3 → ((s : State) → ◌≡◌ {A = Outcome ℕ State End} (plain_does op s) (put s d (f s))) → ((s : State) → IsState s → f s < 2 ^ 64) → ((s : State) → IsState s → run_alone needed (lower_plain op) s ≡ put s d (f s)) → LowersOp needed (Plain op)
  puts op d f few does_so fits same = record {
    same = λ s g. same s g ∙ sym (does_so s);
    three = few_targeted needed (lower_plain op) few;
    silent = λ s. subst (λ o. NoCall o) (sym (does_so s)) tt;
    stays = λ s g. subst (λ o. GoodOutcome IsState o) (sym (does_so s)) (registers_stay s d (f s) g (fits s g));
  }

  -- one instruction
  puts_one : (op : RvOp) (i : Instr) (d : ℕ) (f : State → ℕ) → lower_plain op ≡ i ∷ [] → ((s : State) → ◌≡◌ {A = Outcome ℕ State End} (plain_does op s) (put s d (f s))) → ((s : State) → IsState s → f s < 2 ^ 64) → ((s : State) → IsState s → effect needed 0 i s ≡ put s d (f s)) → LowersOp needed (Plain op)
  puts_one op i d f is does_so fits same =
      let few : length (i ∷ []) ≤ 3 = omega arith in
      puts op d f (rw is few) does_so fits (λ s g. ap (λ is. run_alone needed is s) is ∙ and_no_more (effect needed 0 i s) ∙ same s g)

  -- an operation that does nothing
  does_nothing : (op : RvOp) → lower_plain op ≡ [] → ((s : State) → ◌≡◌ {A = Outcome ℕ State End} (plain_does op s) (Next s)) → LowersOp needed (Plain op)
  does_nothing op is does_so = record {
    same = λ s g. ap (λ is. run_alone needed is s) is ∙ sym (does_so s);
    three = few_targeted needed (lower_plain op) (rw is none_are_few);
    silent = λ s. subst (λ o. NoCall o) (sym (does_so s)) tt;
    stays = λ s g. subst (λ o. GoodOutcome IsState o) (sym (does_so s)) g;
  }

  -- a constant
  puts_constant : (op : RvOp) (d x : ℕ) → lower_plain op ≡ load_imm d x ∷ [] → ((s : State) → ◌≡◌ {A = Outcome ℕ State End} (plain_does op s) (put s d x)) → x < 2 ^ 64 → LowersOp needed (Plain op)
  unfolding effect
  puts_constant op d x is does_so fits = puts_one op (load_imm d x) d (λ s. x) is does_so (λ s g. fits) (λ s g. rw opcode.load_imm refl)

  -- what the instruction of an operation on a register and an immediate does
  immediate_effect : (op : AluImm) (d a x : ℕ) (s : State) → effect needed 0 (rrx (alu_imm_opcode op) d a x) s ≡ put s d (binary (of_alu_imm op) (register s a) x)
  unfolding effect
  immediate_effect Addi d a x s = rw opcode.add_imm_64 refl
  immediate_effect Slti d a x s = rw opcode.set_lt_s_imm refl
  immediate_effect Sltiu d a x s = rw opcode.set_lt_u_imm refl
  immediate_effect Xori d a x s = rw opcode.xor_imm refl
  immediate_effect Ori d a x s = rw opcode.or_imm refl
  immediate_effect Andi d a x s = rw opcode.and_imm refl
  immediate_effect Slli d a x s = rw opcode.shlo_l_imm_64 refl
  immediate_effect Srli d a x s = rw opcode.shlo_r_imm_64 refl
  immediate_effect Srai d a x s = rw opcode.shar_r_imm_64 refl
  immediate_effect Addiw d a x s = rw opcode.add_imm_32 refl
  immediate_effect Slliw d a x s = rw opcode.shlo_l_imm_32 refl
  immediate_effect Srliw d a x s = rw opcode.shlo_r_imm_32 refl
  immediate_effect Sraiw d a x s = rw opcode.shar_r_imm_32 refl

  -- and that of an operation on two registers
  register_effect : (op : Alu) (d a b : ℕ) (s : State) → effect needed 0 (rrr (alu_opcode op) d a b) s ≡ put s d (binary (of_alu op) (register s a) (register s b))
  unfolding effect
  register_effect Add d a b s = rw opcode.add_64 refl
  register_effect Sub d a b s = rw opcode.sub_64 refl
  register_effect Sll d a b s = rw opcode.shlo_l_64 refl
  register_effect Slt d a b s = rw opcode.set_lt_s refl
  register_effect Sltu d a b s = rw opcode.set_lt_u refl
  register_effect Xor d a b s = rw opcode.xor refl
  register_effect Srl d a b s = rw opcode.shlo_r_64 refl
  register_effect Sra d a b s = rw opcode.shar_r_64 refl
  register_effect Or d a b s = rw opcode.or refl
  register_effect And d a b s = rw opcode.and refl
  register_effect Mul d a b s = rw opcode.mul_64 refl
  register_effect Mulh d a b s = rw opcode.mul_upper_s_s refl
  register_effect Mulhsu d a b s = rw opcode.mul_upper_s_u refl
  register_effect Mulhu d a b s = rw opcode.mul_upper_u_u refl
  register_effect Div d a b s = rw opcode.div_s_64 refl
  register_effect Divu d a b s = rw opcode.div_u_64 refl
  register_effect Rem d a b s = rw opcode.rem_s_64 refl
  register_effect Remu d a b s = rw opcode.rem_u_64 refl
  register_effect Addw d a b s = rw opcode.add_32 refl
  register_effect Subw d a b s = rw opcode.sub_32 refl
  register_effect Sllw d a b s = rw opcode.shlo_l_32 refl
  register_effect Srlw d a b s = rw opcode.shlo_r_32 refl
  register_effect Sraw d a b s = rw opcode.shar_r_32 refl
  register_effect Mulw d a b s = rw opcode.mul_32 refl
  register_effect Divw d a b s = rw opcode.div_s_32 refl
  register_effect Divuw d a b s = rw opcode.div_u_32 refl
  register_effect Remw d a b s = rw opcode.rem_s_32 refl
  register_effect Remuw d a b s = rw opcode.rem_u_32 refl

  -- an operation on a register and an immediate, with nothing for a write to x0
  lowers_immediate : (op : AluImm) (rd rs1 : Reg) (imm : ℤ) → IsOperand op imm → LowersOp needed (Plain (rv.OpImm op rd rs1 imm))
  unfolding effect
  lowers_immediate op Zero rs1 imm h = does_nothing (rv.OpImm op Zero rs1 imm) refl (λ s. refl)
  lowers_immediate op (R d) Zero imm h = puts_constant (rv.OpImm op (R d) Zero imm) d (binary (of_alu_imm op) 0 (word_of imm)) refl (λ s. refl) (results_are_words (of_alu_imm op) 0 (word_of imm) (omega arith) (operand_fits op imm h))
  lowers_immediate op (R d) (R a) imm h =
      puts_one (rv.OpImm op (R d) (R a) imm) (rrx (alu_imm_opcode op) d a (word_of imm)) d (λ s. binary (of_alu_imm op) (register s a) (word_of imm)) refl (λ s. refl)
      (λ s g. results_are_words (of_alu_imm op) (register s a) (word_of imm) (register_fits s a g) (operand_fits op imm h))
      (λ s g. immediate_effect op d a (word_of imm) s)

  -- an operation on a register and x0
  second_puts : (op : Alu) (i : Instr) (d a : ℕ) → with_second_zero op d a ≡ i ∷ [] → ((s : State) → IsState s → effect needed 0 i s ≡ put s d (binary (of_alu op) (register s a) 0)) → LowersOp needed (Plain (rv.Op op (R d) (R a) Zero))
  second_puts op i d a is same = puts_one (rv.Op op (R d) (R a) Zero) i d (λ s. binary (of_alu op) (register s a) 0) is (λ s. refl) (λ s g. results_are_words (of_alu op) (register s a) 0 (register_fits s a g) (omega arith)) same

  second_moves : (op : Alu) (d a : ℕ) → with_second_zero op d a ≡ move_reg d a ∷ [] → ((x : ℕ) → x < 2 ^ 64 → binary (of_alu op) x 0 ≡ x) → LowersOp needed (Plain (rv.Op op (R d) (R a) Zero))
  unfolding effect
  second_moves op d a is law = second_puts op (move_reg d a) d a is (λ s g. rw opcode.move_reg (ap (put s d) (sym (law (register s a) (register_fits s a g)))))

  second_constant : (op : Alu) (d a c : ℕ) → with_second_zero op d a ≡ load_imm d c ∷ [] → ((x : ℕ) → binary (of_alu op) x 0 ≡ c) → LowersOp needed (Plain (rv.Op op (R d) (R a) Zero))
  unfolding effect
  second_constant op d a c is law = second_puts op (load_imm d c) d a is (λ s g. rw opcode.load_imm (ap (put s d) (sym (law (register s a)))))

  second_adds : (op : Alu) (d a : ℕ) → with_second_zero op d a ≡ add_imm_32 d a 0 ∷ [] → ((x : ℕ) → binary (of_alu op) x 0 ≡ add_32 x 0) → LowersOp needed (Plain (rv.Op op (R d) (R a) Zero))
  unfolding effect
  second_adds op d a is law = second_puts op (add_imm_32 d a 0) d a is (λ s g. rw opcode.add_imm_32 (ap (put s d) (sym (law (register s a)))))

  lowers_second_zero : (op : Alu) (d a : ℕ) → LowersOp needed (Plain (rv.Op op (R d) (R a) Zero))
  unfolding effect
  lowers_second_zero Add d a = second_moves Add d a refl sum_zero_r
  lowers_second_zero Sub d a = second_moves Sub d a refl sub_zero_r
  lowers_second_zero Sll d a = second_moves Sll d a refl shlo_l_zero_r
  lowers_second_zero Slt d a = second_puts Slt (set_lt_s_imm d a 0) d a refl (λ s g. rw opcode.set_lt_s_imm refl)
  lowers_second_zero Sltu d a = second_constant Sltu d a 0 refl less_zero
  lowers_second_zero Xor d a = second_moves Xor d a refl xor_zero
  lowers_second_zero Srl d a = second_moves Srl d a refl shlo_r_zero_r
  lowers_second_zero Sra d a = second_moves Sra d a refl shar_r_zero_r
  lowers_second_zero Or d a = second_moves Or d a refl or_zero
  lowers_second_zero And d a = second_constant And d a 0 refl and_zero
  lowers_second_zero Mul d a = second_constant Mul d a 0 refl mul_zero_r
  lowers_second_zero Mulh d a = second_constant Mulh d a 0 refl upper_s_s_zero_r
  lowers_second_zero Mulhsu d a = second_constant Mulhsu d a 0 refl upper_s_u_zero_r
  lowers_second_zero Mulhu d a = second_constant Mulhu d a 0 refl upper_u_u_zero_r
  lowers_second_zero Div d a = second_constant Div d a (2 ^ 64 - 1) refl (λ x. refl)
  lowers_second_zero Divu d a = second_constant Divu d a (2 ^ 64 - 1) refl (λ x. refl)
  lowers_second_zero Rem d a = second_moves Rem d a refl (λ x h. refl)
  lowers_second_zero Remu d a = second_moves Remu d a refl (λ x h. refl)
  lowers_second_zero Addw d a = second_adds Addw d a refl (λ x. refl)
  lowers_second_zero Subw d a = second_adds Subw d a refl sub_32_zero_r
  lowers_second_zero Sllw d a = second_adds Sllw d a refl shlo_l_32_zero_r
  lowers_second_zero Srlw d a = second_adds Srlw d a refl shlo_r_32_zero_r
  lowers_second_zero Sraw d a = second_adds Sraw d a refl shar_r_32_zero_r
  lowers_second_zero Mulw d a = second_constant Mulw d a 0 refl mul_32_zero_r
  lowers_second_zero Divw d a = second_constant Divw d a (2 ^ 64 - 1) refl (λ x. refl)
  lowers_second_zero Divuw d a = second_constant Divuw d a (2 ^ 64 - 1) refl (λ x. refl)
  lowers_second_zero Remw d a = second_adds Remw d a refl rem_32_zero_r
  lowers_second_zero Remuw d a = second_adds Remuw d a refl rem_32_zero_r

  -- an operation on x0 and a register
  first_puts : (op : Alu) (i : Instr) (d b : ℕ) → with_first_zero op d b ≡ i ∷ [] → ((s : State) → IsState s → effect needed 0 i s ≡ put s d (binary (of_alu op) 0 (register s b))) → LowersOp needed (Plain (rv.Op op (R d) Zero (R b)))
  first_puts op i d b is same = puts_one (rv.Op op (R d) Zero (R b)) i d (λ s. binary (of_alu op) 0 (register s b)) is (λ s. refl) (λ s g. results_are_words (of_alu op) 0 (register s b) (omega arith) (register_fits s b g)) same

  first_moves : (op : Alu) (d b : ℕ) → with_first_zero op d b ≡ move_reg d b ∷ [] → ((x : ℕ) → x < 2 ^ 64 → binary (of_alu op) 0 x ≡ x) → LowersOp needed (Plain (rv.Op op (R d) Zero (R b)))
  unfolding effect
  first_moves op d b is law = first_puts op (move_reg d b) d b is (λ s g. rw opcode.move_reg (ap (put s d) (sym (law (register s b) (register_fits s b g)))))

  first_constant : (op : Alu) (d b : ℕ) → with_first_zero op d b ≡ load_imm d 0 ∷ [] → ((x : ℕ) → binary (of_alu op) 0 x ≡ 0) → LowersOp needed (Plain (rv.Op op (R d) Zero (R b)))
  unfolding effect
  first_constant op d b is law = first_puts op (load_imm d 0) d b is (λ s g. rw opcode.load_imm (ap (put s d) (sym (law (register s b)))))

  -- a quotient of x0, in two instructions
  first_divides : (op : Alu) (d b : ℕ) → d < 13 → with_first_zero op d b ≡ set_lt_u_imm d b 1 ∷ neg_add_imm_64 d d 0 ∷ [] → ((x : ℕ) → binary (of_alu op) 0 x ≡ sub_64 0 (set_lt_u x 1)) → LowersOp needed (Plain (rv.Op op (R d) Zero (R b)))
  unfolding effect
  first_divides op d b small is law =
      let few : length (set_lt_u_imm d b 1 ∷ neg_add_imm_64 d d 0 ∷ []) ≤ 3 = omega arith in
      puts (rv.Op op (R d) Zero (R b)) d (λ s. binary (of_alu op) 0 (register s b)) (rw is few) (λ s. refl) (λ s g. results_are_words (of_alu op) 0 (register s b) (omega arith) (register_fits s b g))
      (λ s g. ap (λ is. run_alone needed is s) is ∙ rw (opcode.set_lt_u_imm, opcode.neg_add_imm_64) (twice s d (set_lt_u (register s b) 1) (λ x. sub_64 0 x) g small ∙ ap (put s d) (sym (law (register s b)))))

  -- and of its low 32 bits, in three
  first_divides_32 : (op : Alu) (d b : ℕ) → d < 13 → with_first_zero op d b ≡ add_imm_32 d b 0 ∷ set_lt_u_imm d d 1 ∷ neg_add_imm_64 d d 0 ∷ [] → ((x : ℕ) → binary (of_alu op) 0 x ≡ sub_64 0 (set_lt_u (add_32 x 0) 1)) → LowersOp needed (Plain (rv.Op op (R d) Zero (R b)))
  unfolding effect
  first_divides_32 op d b small is law =
      let few : length (add_imm_32 d b 0 ∷ set_lt_u_imm d d 1 ∷ neg_add_imm_64 d d 0 ∷ []) ≤ 3 = omega arith in
      puts (rv.Op op (R d) Zero (R b)) d (λ s. binary (of_alu op) 0 (register s b)) (rw is few) (λ s. refl) (λ s g. results_are_words (of_alu op) 0 (register s b) (omega arith) (register_fits s b g))
      (λ s g. ap (λ is. run_alone needed is s) is ∙ rw (opcode.add_imm_32, opcode.set_lt_u_imm, opcode.neg_add_imm_64) (thrice s d (add_32 (register s b) 0) (λ x. set_lt_u x 1) (λ x. sub_64 0 x) g small ∙ ap (put s d) (sym (law (register s b)))))

  lowers_first_zero : (op : Alu) (d b : ℕ) → d < 13 → LowersOp needed (Plain (rv.Op op (R d) Zero (R b)))
  unfolding effect
  lowers_first_zero Add d b small = first_moves Add d b refl sum_zero_l
  lowers_first_zero Sub d b small = first_puts Sub (neg_add_imm_64 d b 0) d b refl (λ s g. rw opcode.neg_add_imm_64 refl)
  lowers_first_zero Sll d b small = first_constant Sll d b refl zero_shlo_l
  lowers_first_zero Slt d b small = first_puts Slt (set_gt_s_imm d b 0) d b refl (λ s g. rw opcode.set_gt_s_imm refl)
  lowers_first_zero Sltu d b small = first_puts Sltu (set_gt_u_imm d b 0) d b refl (λ s g. rw opcode.set_gt_u_imm refl)
  lowers_first_zero Xor d b small = first_moves Xor d b refl (λ x h. refl)
  lowers_first_zero Srl d b small = first_constant Srl d b refl zero_shlo_r
  lowers_first_zero Sra d b small = first_constant Sra d b refl zero_shar_r
  lowers_first_zero Or d b small = first_moves Or d b refl (λ x h. refl)
  lowers_first_zero And d b small = first_constant And d b refl (λ x. refl)
  lowers_first_zero Mul d b small = first_constant Mul d b refl zero_mul
  lowers_first_zero Mulh d b small = first_constant Mulh d b refl zero_upper_s_s
  lowers_first_zero Mulhsu d b small = first_constant Mulhsu d b refl zero_upper_s_u
  lowers_first_zero Mulhu d b small = first_constant Mulhu d b refl zero_upper_u_u
  lowers_first_zero Div d b small = first_divides Div d b small refl zero_div_s
  lowers_first_zero Divu d b small = first_divides Divu d b small refl zero_div_u
  lowers_first_zero Rem d b small = first_constant Rem d b refl zero_rem_s
  lowers_first_zero Remu d b small = first_constant Remu d b refl zero_rem_u
  lowers_first_zero Addw d b small = first_puts Addw (add_imm_32 d b 0) d b refl (λ s g. rw opcode.add_imm_32 (ap (put s d) (sym (zero_add_32 (register s b)))))
  lowers_first_zero Subw d b small = first_puts Subw (neg_add_imm_32 d b 0) d b refl (λ s g. rw opcode.neg_add_imm_32 refl)
  lowers_first_zero Sllw d b small = first_constant Sllw d b refl zero_shlo_l_32
  lowers_first_zero Srlw d b small = first_constant Srlw d b refl zero_shlo_r_32
  lowers_first_zero Sraw d b small = first_constant Sraw d b refl zero_shar_r_32
  lowers_first_zero Mulw d b small = first_constant Mulw d b refl zero_mul_32
  lowers_first_zero Divw d b small = first_divides_32 Divw d b small refl zero_div_s_32
  lowers_first_zero Divuw d b small = first_divides_32 Divuw d b small refl zero_div_u_32
  lowers_first_zero Remw d b small = first_constant Remw d b refl zero_rem_s_32
  lowers_first_zero Remuw d b small = first_constant Remuw d b refl zero_rem_u_32

  -- an operation on two registers, with nothing for a write to x0
  lowers_registers : (op : Alu) (rd rs1 rs2 : Reg) → IsReg rd → LowersOp needed (Plain (rv.Op op rd rs1 rs2))
  unfolding effect
  lowers_registers op Zero rs1 rs2 h = does_nothing (rv.Op op Zero rs1 rs2) refl (λ s. refl)
  lowers_registers op (R d) Zero Zero h = puts_constant (rv.Op op (R d) Zero Zero) d (binary (of_alu op) 0 0) refl (λ s. refl) (results_are_words (of_alu op) 0 0 (omega arith) (omega arith))
  lowers_registers op (R d) Zero (R b) h = lowers_first_zero op d b h
  lowers_registers op (R d) (R a) Zero h = lowers_second_zero op d a
  lowers_registers op (R d) (R a) (R b) h =
      puts_one (rv.Op op (R d) (R a) (R b)) (rrr (alu_opcode op) d a b) d (λ s. binary (of_alu op) (register s a) (register s b)) refl (λ s. refl)
      (λ s g. results_are_words (of_alu op) (register s a) (register s b) (register_fits s a g) (register_fits s b g))
      (λ s g. register_effect op d a b s)

  -- each operation that can be lowered alone
  pub lowers_plain : (op : RvOp) → IsLowerable op → LowersOp needed (Plain op)
  unfolding effect
  lowers_plain (rv.Lui Zero value) h = does_nothing (rv.Lui Zero value) refl (λ s. refl)
  lowers_plain (rv.Lui (R d) value) h = puts_constant (rv.Lui (R d) value) d (word_of value) refl (λ s. refl) (word_fits value h.1)
  lowers_plain (rv.Auipc Zero value) h = does_nothing (rv.Auipc Zero value) refl (λ s. refl)
  lowers_plain (rv.Auipc (R d) value) h = puts_constant (rv.Auipc (R d) value) d (word_of value) refl (λ s. refl) (word_fits value h.1)
  lowers_plain (rv.Load width rd rs1 imm) h = lowers_load needed width rd rs1 imm h.0
  lowers_plain (rv.Store width rs1 rs2 imm) h = lowers_store needed width rs1 rs2 imm
  lowers_plain (rv.OpImm op rd rs1 imm) h = lowers_immediate op rd rs1 imm h.2
  lowers_plain (rv.Op op rd rs1 rs2) h = lowers_registers op rd rs1 rs2 h.0
  lowers_plain rv.Fence h = does_nothing rv.Fence refl (λ s. refl)
  lowers_plain rv.Trap h = record { same = λ s g. rw opcode.trap refl; three = omega arith; silent = λ s. tt; stays = λ s g. tt }
  lowers_plain op h = absurd h
