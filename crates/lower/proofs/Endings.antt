-- The instructions of an operation that ends its block can be placed, and the last of them ends the block: it has an
-- offset where the operation has a target, and none in front of it has one.
use Rattle.std.proofs.Common.{◌≡◌, ℕ, ◌%◌, ◌^◌, ◌<◌, Bool, true, false, ℤ, List, [], ◌∷◌, Option, Some, None, refl, sym, ap, subst, arith}
use Rattle.std.specs.Prelude.{nat_eq, IsTrue}
use Rattle.std.specs.List.{AllByRecursion}
use Rattle.numbers.specs.Words.{word_of}
use Rattle.arithmetic.specs.Operations.{holds}
use Rattle.rv_decode.specs.declared.ops.Cond.{Cond}
use Rattle.rv_decode.specs.declared.ops.Cond.TheVariants.{Eq, Ne, Lt, Ge, Ltu, Geu}
use Rattle.rv_decode.specs.declared.ops.Reg.{Reg}
use Rattle.rv_decode.specs.declared.ops.Reg.TheVariants.{Zero, R}
use Rattle.rv_decode.specs.declared.ops.RvOp.TheVariants as rv
use Rattle.rv_decode.specs.Operations.{IsReg, IsSigned}
use Rattle.runs.specs.Numbers.{named}
use Rattle.lift_blocks.specs.Arithmetic.{of_cond}
use Rattle.lift_blocks.specs.Operations.{Operation, Plain, Branch, Jal, Jalr, Pair, HostCall, Sbrk}
use Rattle.pvm_ops.specs.declared.forms.Form.TheVariants.{RXO, RRO}
use Rattle.pvm_ops.specs.declared.instr.Instr.{Instr}
use Rattle.pvm_ops.specs.Opcodes.{is_known, form_of}
use Rattle.pvm_ops.specs.Offsets.{has_offset}
use Rattle.pvm_ops.specs.Fetch.{trap}
use Rattle.pvm_ops.specs.Spelling.{IsShort}
use Rattle.pvm_ops.proofs.Table as opcode
use Rattle.blob_check.specs.Starts.{is_terminator}
use Rattle.jump_table.specs.Laws.{IsPlaceable, IsPlainInstr, is_some}
use Rattle.lower.specs.Instructions.{rro, rxo, jump, load_imm_jump, fallthrough, jump_ind, load_imm}
use Rattle.lower.specs.Lowering.{branch_opcode, branch_zero_opcode, zero_branch_opcode, jump_if, jump_with, jump_to, jump_by_register, clears_if, lower_op, target_if, offset_target}
use Rattle.lift_blocks.specs.Fits.{IsLink}
use Rattle.lower.specs.Laws.{IsEnding, EndingsArePlaceable}
use Rattle.lower.proofs.Encodable.{short, small_is_short, trap_is_plain, fallthrough_is_plain, rx_is_plain, load_imm_is_plain}

of_plain : (i : Instr) → IsPlainInstr i → IsPlaceable i
of_plain i h = record { known = h.known; encodable = h.encodable }

-- the instructions of forms with an offset
rro_is_placeable : (op a b : ℕ) → IsTrue (is_known op) → form_of op ≡ RRO → a < 13 → b < 13 → IsPlaceable (rro op a b)
rro_is_placeable op a b known is small_a small_b = record {
  known = known;
  encodable = record { a = omega arith; b = omega arith; d = omega arith; offset = omega arith; unused = rw is refl; fit = rw is refl };
}

rxo_is_placeable : (op a x : ℕ) → IsTrue (is_known op) → form_of op ≡ RXO → a < 13 → IsShort x → IsPlaceable (rxo op a x)
rxo_is_placeable op a x known is small h = record {
  known = known;
  encodable = record { a = omega arith; b = omega arith; d = omega arith; offset = omega arith; unused = rw is refl; fit = rw is (h, refl) };
}

jump_is_placeable : IsPlaceable jump
jump_is_placeable = record {
  known = opcode.jump_known;
  encodable = record { a = omega arith; b = omega arith; d = omega arith; offset = omega arith; unused = rw opcode.jump_form refl; fit = rw opcode.jump_form refl };
}

-- an instruction that ends a block, by its target
record IsLast (i : Instr) (target : Option ℕ) : Type 0 where
  placeable : IsPlaceable i
  targeted : has_offset (form_of i.op) ≡ is_some target
  terminator : is_terminator i.op ≡ true

rro_last : (op a b target : ℕ) → IsTrue (is_known op) → form_of op ≡ RRO → is_terminator op ≡ true → a < 13 → b < 13 → IsLast (rro op a b) (Some target)
rro_last op a b target known is ends small_a small_b = record { placeable = rro_is_placeable op a b known is small_a small_b; targeted = rw is refl; terminator = ends }

rxo_last : (op a x target : ℕ) → IsTrue (is_known op) → form_of op ≡ RXO → is_terminator op ≡ true → a < 13 → IsShort x → IsLast (rxo op a x) (Some target)
rxo_last op a x target known is ends small h = record { placeable = rxo_is_placeable op a x known is small h; targeted = rw is refl; terminator = ends }

jump_last : (target : ℕ) → IsLast jump (Some target)
jump_last target = record { placeable = jump_is_placeable; targeted = rw opcode.jump_form refl; terminator = refl }

trap_last : IsLast trap None
trap_last = record { placeable = of_plain trap trap_is_plain; targeted = trap_is_plain.no_offset; terminator = refl }

load_imm_jump_last : (d link target : ℕ) → d < 13 → link < 2 ^ 31 → IsLast (load_imm_jump d link) (Some target)
load_imm_jump_last d link target small h = rxo_last 80 d link target opcode.load_imm_jump_known opcode.load_imm_jump_form refl small (small_is_short link h)

branch_last : (cond : Cond) (a b target : ℕ) → a < 13 → b < 13 → IsLast (rro (branch_opcode cond) a b) (Some target)
branch_last Eq a b target h k = rro_last 170 a b target opcode.branch_eq_known opcode.branch_eq_form refl h k
branch_last Ne a b target h k = rro_last 171 a b target opcode.branch_ne_known opcode.branch_ne_form refl h k
branch_last Lt a b target h k = rro_last 173 a b target opcode.branch_lt_s_known opcode.branch_lt_s_form refl h k
branch_last Ge a b target h k = rro_last 175 a b target opcode.branch_ge_s_known opcode.branch_ge_s_form refl h k
branch_last Ltu a b target h k = rro_last 172 a b target opcode.branch_lt_u_known opcode.branch_lt_u_form refl h k
branch_last Geu a b target h k = rro_last 174 a b target opcode.branch_ge_u_known opcode.branch_ge_u_form refl h k

branch_zero_last : (cond : Cond) (a target : ℕ) → a < 13 → IsLast (rxo (branch_zero_opcode cond) a 0) (Some target)
branch_zero_last Eq a target h = rxo_last 81 a 0 target opcode.branch_eq_imm_known opcode.branch_eq_imm_form refl h refl
branch_zero_last Ne a target h = rxo_last 82 a 0 target opcode.branch_ne_imm_known opcode.branch_ne_imm_form refl h refl
branch_zero_last Lt a target h = rxo_last 87 a 0 target opcode.branch_lt_s_imm_known opcode.branch_lt_s_imm_form refl h refl
branch_zero_last Ge a target h = rxo_last 89 a 0 target opcode.branch_ge_s_imm_known opcode.branch_ge_s_imm_form refl h refl
branch_zero_last Ltu a target h = rxo_last 83 a 0 target opcode.branch_lt_u_imm_known opcode.branch_lt_u_imm_form refl h refl
branch_zero_last Geu a target h = rxo_last 85 a 0 target opcode.branch_ge_u_imm_known opcode.branch_ge_u_imm_form refl h refl

zero_branch_last : (cond : Cond) (b target : ℕ) → b < 13 → IsLast (rxo (zero_branch_opcode cond) b 0) (Some target)
zero_branch_last Eq b target h = rxo_last 81 b 0 target opcode.branch_eq_imm_known opcode.branch_eq_imm_form refl h refl
zero_branch_last Ne b target h = rxo_last 82 b 0 target opcode.branch_ne_imm_known opcode.branch_ne_imm_form refl h refl
zero_branch_last Lt b target h = rxo_last 90 b 0 target opcode.branch_gt_s_imm_known opcode.branch_gt_s_imm_form refl h refl
zero_branch_last Ge b target h = rxo_last 88 b 0 target opcode.branch_le_s_imm_known opcode.branch_le_s_imm_form refl h refl
zero_branch_last Ltu b target h = rxo_last 86 b 0 target opcode.branch_gt_u_imm_known opcode.branch_gt_u_imm_form refl h refl
zero_branch_last Geu b target h = rxo_last 84 b 0 target opcode.branch_le_u_imm_known opcode.branch_le_u_imm_form refl h refl

known_last : (b : Bool) (target : ℕ) → IsLast (jump_if b) (target_if b target)
known_last true target = jump_last target
known_last false target = record { placeable = of_plain fallthrough fallthrough_is_plain; targeted = fallthrough_is_plain.no_offset; terminator = refl }

jump_with_last : (rd : Reg) (link target : ℕ) → IsReg rd → IsLink rd link → IsLast (jump_with rd link) (Some target)
jump_with_last Zero link target h k = jump_last target
jump_with_last (R d) link target h k = load_imm_jump_last d link target h k

jump_to_last : (o : Option ℕ) (rd : Reg) (link : ℕ) → IsReg rd → IsLink rd link → IsLast (jump_to o rd link) o
jump_to_last None rd link h k = trap_last
jump_to_last (Some target) rd link h k = jump_with_last rd link target h k

register_last : (rd : Reg) (a : ℕ) (imm : ℤ) (link : ℕ) → IsReg rd → a < 13 → IsSigned 32 imm → IsLink rd link → IsLast (jump_by_register rd a (word_of imm) link) None
register_last Zero a imm link h k i l =
    let plain = rx_is_plain 50 a (word_of imm) opcode.jump_ind_known opcode.jump_ind_form k (short imm i) in
    record { placeable = of_plain (jump_ind a (word_of imm)) plain; targeted = plain.no_offset; terminator = refl }
register_last (R d) a imm link h k i l = record {
  placeable = record {
    known = opcode.load_imm_jump_ind_known;
    encodable = record { a = omega arith; b = omega arith; d = omega arith; offset = omega arith; unused = rw opcode.load_imm_jump_ind_form refl; fit = rw opcode.load_imm_jump_ind_form (small_is_short link l, short imm i) };
  };
  targeted = rw opcode.load_imm_jump_ind_form refl;
  terminator = refl;
}

module _ (needed : List ℕ) where
  -- an operation with one instruction
  one_last : (op : Operation ℕ) (i : Instr) → lower_op needed op ≡ i ∷ [] → IsLast i (offset_target needed op) → IsEnding needed op
  one_last op i is last = record {
    block = record { front = []; last = i; is = is; plain = tt; targeted = last.targeted };
    placeable = subst (λ is. AllByRecursion IsPlaceable is) (sym is) (last.placeable, tt);
    terminator = last.terminator;
  }

  -- a pair
  clears_last : (b : Bool) (t d link target : ℕ) → nat_eq t d ≡ b → t < 13 → d < 13 → link < 2 ^ 31 → IsEnding needed (Pair (R t) (R d) link target)
  clears_last true t d link target e h k l = one_last (Pair (R t) (R d) link target) (load_imm_jump d link) (ap (λ b. clears_if b t d link) e) (load_imm_jump_last d link target k l)
  clears_last false t d link target e h k l =
      let is = ap (λ b. clears_if b t d link) e in
      let clear = load_imm_is_plain t 0 h refl in
      let last = load_imm_jump_last d link target k l in
      record {
        block = record { front = load_imm t 0 ∷ []; last = load_imm_jump d link; is = is; plain = (clear.no_offset, tt); targeted = last.targeted };
        placeable = subst (λ is. AllByRecursion IsPlaceable is) (sym is) (of_plain (load_imm t 0) clear, (last.placeable, tt));
        terminator = last.terminator;
      }

  pair_last : (temp rd : Reg) (link target : ℕ) → IsReg temp → IsReg rd → IsLink rd link → IsEnding needed (Pair temp rd link target)
  pair_last Zero rd link target h k l = one_last (Pair Zero rd link target) (jump_with rd link) refl (jump_with_last rd link target k l)
  pair_last (R t) Zero link target h k l = one_last (Pair (R t) Zero link target) (load_imm_jump t 0) refl (load_imm_jump_last t 0 target h (omega arith))
  pair_last (R t) (R d) link target h k l = clears_last (nat_eq t d) t d link target refl h k l

-- each operation that ends its block
pub endings_are_placeable : EndingsArePlaceable
endings_are_placeable needed (Plain rv.Trap) h e = one_last needed (Plain rv.Trap) trap refl trap_last
endings_are_placeable needed (Plain op) h e = absurd cc
endings_are_placeable needed (Branch cond Zero Zero target) h e = one_last needed (Branch cond Zero Zero target) (jump_if (holds (of_cond cond) 0 0)) refl (known_last (holds (of_cond cond) 0 0) target)
endings_are_placeable needed (Branch cond Zero (R b) target) h e = one_last needed (Branch cond Zero (R b) target) (rxo (zero_branch_opcode cond) b 0) refl (zero_branch_last cond b target h.1)
endings_are_placeable needed (Branch cond (R a) Zero target) h e = one_last needed (Branch cond (R a) Zero target) (rxo (branch_zero_opcode cond) a 0) refl (branch_zero_last cond a target h.0)
endings_are_placeable needed (Branch cond (R a) (R b) target) h e = one_last needed (Branch cond (R a) (R b) target) (rro (branch_opcode cond) a b) refl (branch_last cond a b target h.0 h.1)
endings_are_placeable needed (Jal rd link target) h e = one_last needed (Jal rd link target) (jump_with rd link) refl (jump_with_last rd link target h.0 h.1)
endings_are_placeable needed (Jalr rd Zero imm link) h e = one_last needed (Jalr rd Zero imm link) (jump_to (named needed (word_of imm % 2 ^ 32)) rd link) refl (jump_to_last (named needed (word_of imm % 2 ^ 32)) rd link h.0 h.2)
endings_are_placeable needed (Jalr rd (R a) imm link) h e = one_last needed (Jalr rd (R a) imm link) (jump_by_register rd a (word_of imm) link) refl (register_last rd a imm link h.0 h.1 h.2 h.3)
endings_are_placeable needed (Pair temp rd link target) h e = pair_last needed temp rd link target h.0 h.1 h.2
endings_are_placeable needed (HostCall number) h e = absurd cc
endings_are_placeable needed Sbrk h e = absurd cc
