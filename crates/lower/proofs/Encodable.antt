-- The instructions that operations are lowered to can be placed.
use Rattle.std.proofs.Common.{◌≡◌, ℕ, ◌+◌, ◌-◌, ◌^◌, ◌<◌, Bool, true, false, ℤ, pos, negsuc, refl, sym, subst, arith}
use Rattle.std.specs.Prelude.{nat_lt, IsTrue}
use Rattle.std.specs.Int.RustNames.{int_lt}
use Rattle.std.specs.List.{AllByRecursion}
use Rattle.std.proofs.lemmas.Bool.Decides.{nat_tests}
use Rattle.numbers.specs.Words.{word_of, sum_64}
use Rattle.arithmetic.specs.Words.{extend_32, signed, truth, shlo_l_64, shlo_r_64, shar_r_64, shlo_l_32, shlo_r_32, shar_r_32}
use Rattle.arithmetic.specs.Operations.{binary}
use Rattle.rv_decode.specs.declared.ops.Reg.{Reg}
use Rattle.rv_decode.specs.declared.ops.Reg.TheVariants.{Zero, R}
use Rattle.rv_decode.specs.declared.ops.LoadWidth.{LoadWidth}
use Rattle.rv_decode.specs.declared.ops.LoadWidth.TheVariants.{Lb, Lh, Lw, Ld, Lbu, Lhu, Lwu}
use Rattle.rv_decode.specs.declared.ops.StoreWidth.{StoreWidth}
use Rattle.rv_decode.specs.declared.ops.StoreWidth.TheVariants.{Sb, Sh, Sw, Sd}
use Rattle.rv_decode.specs.declared.ops.AluImm.{AluImm}
use Rattle.rv_decode.specs.declared.ops.AluImm.TheVariants.{Addi, Slti, Sltiu, Xori, Ori, Andi, Slli, Srli, Srai, Addiw, Slliw, Srliw, Sraiw}
use Rattle.rv_decode.specs.declared.ops.Alu.{Alu}
use Rattle.rv_decode.specs.declared.ops.Alu.TheVariants.{Add, Sub, Sll, Slt, Sltu, Xor, Srl, Sra, Or, And, Mul, Mulh, Mulhsu, Mulhu, Div, Divu, Rem, Remu, Addw, Subw, Sllw, Srlw, Sraw, Mulw, Divw, Divuw, Remw, Remuw}
use Rattle.rv_decode.specs.declared.ops.RvOp.{RvOp}
use Rattle.rv_decode.specs.declared.ops.RvOp.TheVariants as rv
use Rattle.rv_decode.specs.Operations.{IsReg, IsWritten, IsSigned}
use Rattle.lift_blocks.specs.Arithmetic.{of_alu_imm, of_alu}
use Rattle.pvm_ops.specs.declared.forms.Form.TheVariants.{RX, XY, RXY, RR, RRX, RRR}
use Rattle.pvm_ops.proofs.Table as opcode
use Rattle.pvm_ops.specs.Opcodes.{is_known, form_of}
use Rattle.pvm_ops.specs.Fetch.{trap}
use Rattle.pvm_ops.specs.Spelling.{IsShort}
use Rattle.jump_table.specs.Laws.{IsPlainInstr}
use Rattle.lift_blocks.specs.Fits.{IsOperand}
use Rattle.lower.specs.Instructions.{rx, rr, rrx, rrr, xy, rxy, ecalli, sbrk, fallthrough, jump_ind, load_imm, load_imm_64, move_reg, add_imm_32, set_lt_u_imm, neg_add_imm_64}
use Rattle.lower.specs.Plain.{alu_imm_opcode, alu_opcode, load_opcode, load_ind_opcode, store_opcode, store_ind_opcode, store_imm_opcode, store_imm_ind_opcode, with_second_zero, with_first_zero, lower_plain, IsLowerable}
use Rattle.lower.proofs.Immediates.{wider, word_fits, operand_is_signed}
use Rattle.lower.proofs.Rows.{sum_zero_l, zero_shlo_l, zero_shlo_r, zero_shar_r, zero_shlo_l_32, zero_shlo_r_32, zero_shar_r_32}

-- an immediate of 32 bits is the sign extension of its low 32 bits
pub short : (imm : ℤ) → IsSigned 32 imm → IsShort (word_of imm)
short (pos n) h = grind (arith, nat_tests)
short (negsuc n) h = grind (arith, nat_tests)

-- so is a number below 2^31
pub small_is_short : (x : ℕ) → x < 2 ^ 31 → IsShort x
small_is_short x h = grind (arith, nat_tests)

-- so is a truth, and what was extended
truth_is_short : (b : Bool) → IsShort (truth b)
truth_is_short true = refl
truth_is_short false = refl

extended_is_short : (x : ℕ) → IsShort (extend_32 x)
extended_is_short x = grind (arith, nat_tests)

is_short : (x y : ℕ) → x ≡ y → IsShort y → IsShort x
is_short x y e h = subst (λ n. IsShort n) (sym e) h

-- what an operation on an immediate gives of x0
constant_is_short : (op : AluImm) (imm : ℤ) → IsOperand op imm → IsShort (binary (of_alu_imm op) 0 (word_of imm))
constant_is_short Addi imm h = is_short (sum_64 0 (word_of imm)) (word_of imm) (sum_zero_l (word_of imm) (word_fits imm h)) (short imm h)
constant_is_short Slti imm h = truth_is_short (int_lt (signed 0) (signed (word_of imm)))
constant_is_short Sltiu imm h = truth_is_short (nat_lt 0 (word_of imm))
constant_is_short Xori imm h = short imm h
constant_is_short Ori imm h = short imm h
constant_is_short Andi imm h = refl
constant_is_short Slli imm h = is_short (shlo_l_64 0 (word_of imm)) 0 (zero_shlo_l (word_of imm)) refl
constant_is_short Srli imm h = is_short (shlo_r_64 0 (word_of imm)) 0 (zero_shlo_r (word_of imm)) refl
constant_is_short Srai imm h = is_short (shar_r_64 0 (word_of imm)) 0 (zero_shar_r (word_of imm)) refl
constant_is_short Addiw imm h = extended_is_short (0 + word_of imm)
constant_is_short Slliw imm h = is_short (shlo_l_32 0 (word_of imm)) 0 (zero_shlo_l_32 (word_of imm)) refl
constant_is_short Srliw imm h = is_short (shlo_r_32 0 (word_of imm)) 0 (zero_shlo_r_32 (word_of imm)) refl
constant_is_short Sraiw imm h = is_short (shar_r_32 0 (word_of imm)) 0 (zero_shar_r_32 (word_of imm)) refl

-- what an operation gives of x0 and x0
both_zero_is_short : (op : Alu) → IsShort (binary (of_alu op) 0 0)
both_zero_is_short Add = refl
both_zero_is_short Sub = refl
both_zero_is_short Sll = refl
both_zero_is_short Slt = refl
both_zero_is_short Sltu = refl
both_zero_is_short Xor = refl
both_zero_is_short Srl = refl
both_zero_is_short Sra = refl
both_zero_is_short Or = refl
both_zero_is_short And = refl
both_zero_is_short Mul = refl
both_zero_is_short Mulh = refl
both_zero_is_short Mulhsu = refl
both_zero_is_short Mulhu = refl
both_zero_is_short Div = refl
both_zero_is_short Divu = refl
both_zero_is_short Rem = refl
both_zero_is_short Remu = refl
both_zero_is_short Addw = refl
both_zero_is_short Subw = refl
both_zero_is_short Sllw = refl
both_zero_is_short Srlw = refl
both_zero_is_short Sraw = refl
both_zero_is_short Mulw = refl
both_zero_is_short Divw = refl
both_zero_is_short Divuw = refl
both_zero_is_short Remw = refl
both_zero_is_short Remuw = refl

-- trap can be placed
pub trap_is_plain : IsPlainInstr trap
trap_is_plain = record {
  known = opcode.trap_known;
  encodable = record { a = omega arith; b = omega arith; d = omega arith; offset = omega arith; unused = rw opcode.trap_form refl; fit = rw opcode.trap_form tt };
  no_offset = rw opcode.trap_form refl;
}

-- so can fallthrough
pub fallthrough_is_plain : IsPlainInstr fallthrough
fallthrough_is_plain = record {
  known = opcode.fallthrough_known;
  encodable = record { a = omega arith; b = omega arith; d = omega arith; offset = omega arith; unused = rw opcode.fallthrough_form refl; fit = rw opcode.fallthrough_form tt };
  no_offset = rw opcode.fallthrough_form refl;
}

-- so can a call of the host
pub ecalli_is_plain : (number : ℕ) → IsShort number → IsPlainInstr (ecalli number)
ecalli_is_plain number h = record {
  known = opcode.ecalli_known;
  encodable = record { a = omega arith; b = omega arith; d = omega arith; offset = omega arith; unused = rw opcode.ecalli_form refl; fit = rw opcode.ecalli_form h };
  no_offset = rw opcode.ecalli_form refl;
}

-- so can an instruction of a form without an offset
pub rx_is_plain : (op a x : ℕ) → IsTrue (is_known op) → form_of op ≡ RX → a < 13 → IsShort x → IsPlainInstr (rx op a x)
rx_is_plain op a x known is small h = record {
  known = known;
  encodable = record { a = omega arith; b = omega arith; d = omega arith; offset = omega arith; unused = rw is refl; fit = rw is h };
  no_offset = rw is refl;
}

rr_is_plain : (op d a : ℕ) → IsTrue (is_known op) → form_of op ≡ RR → d < 13 → a < 13 → IsPlainInstr (rr op d a)
rr_is_plain op d a known is small_d small_a = record {
  known = known;
  encodable = record { a = omega arith; b = omega arith; d = omega arith; offset = omega arith; unused = rw is refl; fit = rw is tt };
  no_offset = rw is refl;
}

rrx_is_plain : (op a b x : ℕ) → IsTrue (is_known op) → form_of op ≡ RRX → a < 13 → b < 13 → IsShort x → IsPlainInstr (rrx op a b x)
rrx_is_plain op a b x known is small_a small_b h = record {
  known = known;
  encodable = record { a = omega arith; b = omega arith; d = omega arith; offset = omega arith; unused = rw is refl; fit = rw is h };
  no_offset = rw is refl;
}

rrr_is_plain : (op d a b : ℕ) → IsTrue (is_known op) → form_of op ≡ RRR → d < 13 → a < 13 → b < 13 → IsPlainInstr (rrr op d a b)
rrr_is_plain op d a b known is small_d small_a small_b = record {
  known = known;
  encodable = record { a = omega arith; b = omega arith; d = omega arith; offset = omega arith; unused = rw is refl; fit = rw is tt };
  no_offset = rw is refl;
}

xy_is_plain : (op x y : ℕ) → IsTrue (is_known op) → form_of op ≡ XY → IsShort x → IsShort y → IsPlainInstr (xy op x y)
xy_is_plain op x y known is h g = record {
  known = known;
  encodable = record { a = omega arith; b = omega arith; d = omega arith; offset = omega arith; unused = rw is refl; fit = rw is (h, g) };
  no_offset = rw is refl;
}

rxy_is_plain : (op a x y : ℕ) → IsTrue (is_known op) → form_of op ≡ RXY → a < 13 → IsShort x → IsShort y → IsPlainInstr (rxy op a x y)
rxy_is_plain op a x y known is small h g = record {
  known = known;
  encodable = record { a = omega arith; b = omega arith; d = omega arith; offset = omega arith; unused = rw is refl; fit = rw is (h, g) };
  no_offset = rw is refl;
}

-- these by their names
pub jump_ind_is_plain : (a : ℕ) (imm : ℤ) → a < 13 → IsSigned 12 imm → IsPlainInstr (jump_ind a (word_of imm))
jump_ind_is_plain a imm small h = rx_is_plain 50 a (word_of imm) opcode.jump_ind_known opcode.jump_ind_form small (short imm (wider imm h))

pub load_imm_is_plain : (a x : ℕ) → a < 13 → IsShort x → IsPlainInstr (load_imm a x)
load_imm_is_plain a x small h = rx_is_plain 51 a x opcode.load_imm_known opcode.load_imm_form small h

pub load_imm_64_is_plain : (a x : ℕ) → a < 13 → x < 2 ^ 64 → IsPlainInstr (load_imm_64 a x)
load_imm_64_is_plain a x small fits = record {
  known = opcode.load_imm_64_known;
  encodable = record { a = omega arith; b = omega arith; d = omega arith; offset = omega arith; unused = rw opcode.load_imm_64_form refl; fit = rw opcode.load_imm_64_form fits };
  no_offset = rw opcode.load_imm_64_form refl;
}

pub sbrk_is_plain : (d a : ℕ) → d < 13 → a < 13 → IsPlainInstr (sbrk d a)
sbrk_is_plain d a p q = rr_is_plain 101 d a opcode.sbrk_known opcode.sbrk_form p q

move_reg_is_plain : (d a : ℕ) → d < 13 → a < 13 → IsPlainInstr (move_reg d a)
move_reg_is_plain d a p q = rr_is_plain 100 d a opcode.move_reg_known opcode.move_reg_form p q

add_imm_32_is_plain : (a b x : ℕ) → a < 13 → b < 13 → IsShort x → IsPlainInstr (add_imm_32 a b x)
add_imm_32_is_plain a b x p q h = rrx_is_plain 131 a b x opcode.add_imm_32_known opcode.add_imm_32_form p q h

set_lt_u_imm_is_plain : (a b x : ℕ) → a < 13 → b < 13 → IsShort x → IsPlainInstr (set_lt_u_imm a b x)
set_lt_u_imm_is_plain a b x p q h = rrx_is_plain 136 a b x opcode.set_lt_u_imm_known opcode.set_lt_u_imm_form p q h

neg_add_imm_64_is_plain : (a b x : ℕ) → a < 13 → b < 13 → IsShort x → IsPlainInstr (neg_add_imm_64 a b x)
neg_add_imm_64_is_plain a b x p q h = rrx_is_plain 154 a b x opcode.neg_add_imm_64_known opcode.neg_add_imm_64_form p q h

-- the opcode of an operation is known, and its form
immediate_known : (op : AluImm) → IsTrue (is_known (alu_imm_opcode op))
immediate_known Addi = opcode.add_imm_64_known
immediate_known Slti = opcode.set_lt_s_imm_known
immediate_known Sltiu = opcode.set_lt_u_imm_known
immediate_known Xori = opcode.xor_imm_known
immediate_known Ori = opcode.or_imm_known
immediate_known Andi = opcode.and_imm_known
immediate_known Slli = opcode.shlo_l_imm_64_known
immediate_known Srli = opcode.shlo_r_imm_64_known
immediate_known Srai = opcode.shar_r_imm_64_known
immediate_known Addiw = opcode.add_imm_32_known
immediate_known Slliw = opcode.shlo_l_imm_32_known
immediate_known Srliw = opcode.shlo_r_imm_32_known
immediate_known Sraiw = opcode.shar_r_imm_32_known

immediate_form : (op : AluImm) → form_of (alu_imm_opcode op) ≡ RRX
immediate_form Addi = opcode.add_imm_64_form
immediate_form Slti = opcode.set_lt_s_imm_form
immediate_form Sltiu = opcode.set_lt_u_imm_form
immediate_form Xori = opcode.xor_imm_form
immediate_form Ori = opcode.or_imm_form
immediate_form Andi = opcode.and_imm_form
immediate_form Slli = opcode.shlo_l_imm_64_form
immediate_form Srli = opcode.shlo_r_imm_64_form
immediate_form Srai = opcode.shar_r_imm_64_form
immediate_form Addiw = opcode.add_imm_32_form
immediate_form Slliw = opcode.shlo_l_imm_32_form
immediate_form Srliw = opcode.shlo_r_imm_32_form
immediate_form Sraiw = opcode.shar_r_imm_32_form

register_known : (op : Alu) → IsTrue (is_known (alu_opcode op))
register_known Add = opcode.add_64_known
register_known Sub = opcode.sub_64_known
register_known Sll = opcode.shlo_l_64_known
register_known Slt = opcode.set_lt_s_known
register_known Sltu = opcode.set_lt_u_known
register_known Xor = opcode.xor_known
register_known Srl = opcode.shlo_r_64_known
register_known Sra = opcode.shar_r_64_known
register_known Or = opcode.or_known
register_known And = opcode.and_known
register_known Mul = opcode.mul_64_known
register_known Mulh = opcode.mul_upper_s_s_known
register_known Mulhsu = opcode.mul_upper_s_u_known
register_known Mulhu = opcode.mul_upper_u_u_known
register_known Div = opcode.div_s_64_known
register_known Divu = opcode.div_u_64_known
register_known Rem = opcode.rem_s_64_known
register_known Remu = opcode.rem_u_64_known
register_known Addw = opcode.add_32_known
register_known Subw = opcode.sub_32_known
register_known Sllw = opcode.shlo_l_32_known
register_known Srlw = opcode.shlo_r_32_known
register_known Sraw = opcode.shar_r_32_known
register_known Mulw = opcode.mul_32_known
register_known Divw = opcode.div_s_32_known
register_known Divuw = opcode.div_u_32_known
register_known Remw = opcode.rem_s_32_known
register_known Remuw = opcode.rem_u_32_known

register_form : (op : Alu) → form_of (alu_opcode op) ≡ RRR
register_form Add = opcode.add_64_form
register_form Sub = opcode.sub_64_form
register_form Sll = opcode.shlo_l_64_form
register_form Slt = opcode.set_lt_s_form
register_form Sltu = opcode.set_lt_u_form
register_form Xor = opcode.xor_form
register_form Srl = opcode.shlo_r_64_form
register_form Sra = opcode.shar_r_64_form
register_form Or = opcode.or_form
register_form And = opcode.and_form
register_form Mul = opcode.mul_64_form
register_form Mulh = opcode.mul_upper_s_s_form
register_form Mulhsu = opcode.mul_upper_s_u_form
register_form Mulhu = opcode.mul_upper_u_u_form
register_form Div = opcode.div_s_64_form
register_form Divu = opcode.div_u_64_form
register_form Rem = opcode.rem_s_64_form
register_form Remu = opcode.rem_u_64_form
register_form Addw = opcode.add_32_form
register_form Subw = opcode.sub_32_form
register_form Sllw = opcode.shlo_l_32_form
register_form Srlw = opcode.shlo_r_32_form
register_form Sraw = opcode.shar_r_32_form
register_form Mulw = opcode.mul_32_form
register_form Divw = opcode.div_s_32_form
register_form Divuw = opcode.div_u_32_form
register_form Remw = opcode.rem_s_32_form
register_form Remuw = opcode.rem_u_32_form

-- and so are those of loads and stores
load_known : (width : LoadWidth) → IsTrue (is_known (load_opcode width))
load_known Lb = opcode.load_i8_known
load_known Lh = opcode.load_i16_known
load_known Lw = opcode.load_i32_known
load_known Ld = opcode.load_u64_known
load_known Lbu = opcode.load_u8_known
load_known Lhu = opcode.load_u16_known
load_known Lwu = opcode.load_u32_known

load_form : (width : LoadWidth) → form_of (load_opcode width) ≡ RX
load_form Lb = opcode.load_i8_form
load_form Lh = opcode.load_i16_form
load_form Lw = opcode.load_i32_form
load_form Ld = opcode.load_u64_form
load_form Lbu = opcode.load_u8_form
load_form Lhu = opcode.load_u16_form
load_form Lwu = opcode.load_u32_form

load_ind_known : (width : LoadWidth) → IsTrue (is_known (load_ind_opcode width))
load_ind_known Lb = opcode.load_ind_i8_known
load_ind_known Lh = opcode.load_ind_i16_known
load_ind_known Lw = opcode.load_ind_i32_known
load_ind_known Ld = opcode.load_ind_u64_known
load_ind_known Lbu = opcode.load_ind_u8_known
load_ind_known Lhu = opcode.load_ind_u16_known
load_ind_known Lwu = opcode.load_ind_u32_known

load_ind_form : (width : LoadWidth) → form_of (load_ind_opcode width) ≡ RRX
load_ind_form Lb = opcode.load_ind_i8_form
load_ind_form Lh = opcode.load_ind_i16_form
load_ind_form Lw = opcode.load_ind_i32_form
load_ind_form Ld = opcode.load_ind_u64_form
load_ind_form Lbu = opcode.load_ind_u8_form
load_ind_form Lhu = opcode.load_ind_u16_form
load_ind_form Lwu = opcode.load_ind_u32_form

store_known : (width : StoreWidth) → IsTrue (is_known (store_opcode width))
store_known Sb = opcode.store_u8_known
store_known Sh = opcode.store_u16_known
store_known Sw = opcode.store_u32_known
store_known Sd = opcode.store_u64_known

store_form : (width : StoreWidth) → form_of (store_opcode width) ≡ RX
store_form Sb = opcode.store_u8_form
store_form Sh = opcode.store_u16_form
store_form Sw = opcode.store_u32_form
store_form Sd = opcode.store_u64_form

store_ind_known : (width : StoreWidth) → IsTrue (is_known (store_ind_opcode width))
store_ind_known Sb = opcode.store_ind_u8_known
store_ind_known Sh = opcode.store_ind_u16_known
store_ind_known Sw = opcode.store_ind_u32_known
store_ind_known Sd = opcode.store_ind_u64_known

store_ind_form : (width : StoreWidth) → form_of (store_ind_opcode width) ≡ RRX
store_ind_form Sb = opcode.store_ind_u8_form
store_ind_form Sh = opcode.store_ind_u16_form
store_ind_form Sw = opcode.store_ind_u32_form
store_ind_form Sd = opcode.store_ind_u64_form

store_imm_known : (width : StoreWidth) → IsTrue (is_known (store_imm_opcode width))
store_imm_known Sb = opcode.store_imm_u8_known
store_imm_known Sh = opcode.store_imm_u16_known
store_imm_known Sw = opcode.store_imm_u32_known
store_imm_known Sd = opcode.store_imm_u64_known

store_imm_form : (width : StoreWidth) → form_of (store_imm_opcode width) ≡ XY
store_imm_form Sb = opcode.store_imm_u8_form
store_imm_form Sh = opcode.store_imm_u16_form
store_imm_form Sw = opcode.store_imm_u32_form
store_imm_form Sd = opcode.store_imm_u64_form

store_imm_ind_known : (width : StoreWidth) → IsTrue (is_known (store_imm_ind_opcode width))
store_imm_ind_known Sb = opcode.store_imm_ind_u8_known
store_imm_ind_known Sh = opcode.store_imm_ind_u16_known
store_imm_ind_known Sw = opcode.store_imm_ind_u32_known
store_imm_ind_known Sd = opcode.store_imm_ind_u64_known

store_imm_ind_form : (width : StoreWidth) → form_of (store_imm_ind_opcode width) ≡ RXY
store_imm_ind_form Sb = opcode.store_imm_ind_u8_form
store_imm_ind_form Sh = opcode.store_imm_ind_u16_form
store_imm_ind_form Sw = opcode.store_imm_ind_u32_form
store_imm_ind_form Sd = opcode.store_imm_ind_u64_form

-- the instructions of an operation on a register and x0
second_zero_is_plain : (op : Alu) (d a : ℕ) → d < 13 → a < 13 → AllByRecursion IsPlainInstr (with_second_zero op d a)
second_zero_is_plain Add d a p q = (move_reg_is_plain d a p q, tt)
second_zero_is_plain Sub d a p q = (move_reg_is_plain d a p q, tt)
second_zero_is_plain Sll d a p q = (move_reg_is_plain d a p q, tt)
second_zero_is_plain Slt d a p q = (rrx_is_plain 137 d a 0 opcode.set_lt_s_imm_known opcode.set_lt_s_imm_form p q refl, tt)
second_zero_is_plain Sltu d a p q = (load_imm_is_plain d 0 p refl, tt)
second_zero_is_plain Xor d a p q = (move_reg_is_plain d a p q, tt)
second_zero_is_plain Srl d a p q = (move_reg_is_plain d a p q, tt)
second_zero_is_plain Sra d a p q = (move_reg_is_plain d a p q, tt)
second_zero_is_plain Or d a p q = (move_reg_is_plain d a p q, tt)
second_zero_is_plain And d a p q = (load_imm_is_plain d 0 p refl, tt)
second_zero_is_plain Mul d a p q = (load_imm_is_plain d 0 p refl, tt)
second_zero_is_plain Mulh d a p q = (load_imm_is_plain d 0 p refl, tt)
second_zero_is_plain Mulhsu d a p q = (load_imm_is_plain d 0 p refl, tt)
second_zero_is_plain Mulhu d a p q = (load_imm_is_plain d 0 p refl, tt)
second_zero_is_plain Div d a p q = (load_imm_is_plain d (2 ^ 64 - 1) p refl, tt)
second_zero_is_plain Divu d a p q = (load_imm_is_plain d (2 ^ 64 - 1) p refl, tt)
second_zero_is_plain Rem d a p q = (move_reg_is_plain d a p q, tt)
second_zero_is_plain Remu d a p q = (move_reg_is_plain d a p q, tt)
second_zero_is_plain Addw d a p q = (add_imm_32_is_plain d a 0 p q refl, tt)
second_zero_is_plain Subw d a p q = (add_imm_32_is_plain d a 0 p q refl, tt)
second_zero_is_plain Sllw d a p q = (add_imm_32_is_plain d a 0 p q refl, tt)
second_zero_is_plain Srlw d a p q = (add_imm_32_is_plain d a 0 p q refl, tt)
second_zero_is_plain Sraw d a p q = (add_imm_32_is_plain d a 0 p q refl, tt)
second_zero_is_plain Mulw d a p q = (load_imm_is_plain d 0 p refl, tt)
second_zero_is_plain Divw d a p q = (load_imm_is_plain d (2 ^ 64 - 1) p refl, tt)
second_zero_is_plain Divuw d a p q = (load_imm_is_plain d (2 ^ 64 - 1) p refl, tt)
second_zero_is_plain Remw d a p q = (add_imm_32_is_plain d a 0 p q refl, tt)
second_zero_is_plain Remuw d a p q = (add_imm_32_is_plain d a 0 p q refl, tt)

-- and on x0 and a register
first_zero_is_plain : (op : Alu) (d b : ℕ) → d < 13 → b < 13 → AllByRecursion IsPlainInstr (with_first_zero op d b)
first_zero_is_plain Add d b p q = (move_reg_is_plain d b p q, tt)
first_zero_is_plain Sub d b p q = (neg_add_imm_64_is_plain d b 0 p q refl, tt)
first_zero_is_plain Sll d b p q = (load_imm_is_plain d 0 p refl, tt)
first_zero_is_plain Slt d b p q = (rrx_is_plain 143 d b 0 opcode.set_gt_s_imm_known opcode.set_gt_s_imm_form p q refl, tt)
first_zero_is_plain Sltu d b p q = (rrx_is_plain 142 d b 0 opcode.set_gt_u_imm_known opcode.set_gt_u_imm_form p q refl, tt)
first_zero_is_plain Xor d b p q = (move_reg_is_plain d b p q, tt)
first_zero_is_plain Srl d b p q = (load_imm_is_plain d 0 p refl, tt)
first_zero_is_plain Sra d b p q = (load_imm_is_plain d 0 p refl, tt)
first_zero_is_plain Or d b p q = (move_reg_is_plain d b p q, tt)
first_zero_is_plain And d b p q = (load_imm_is_plain d 0 p refl, tt)
first_zero_is_plain Mul d b p q = (load_imm_is_plain d 0 p refl, tt)
first_zero_is_plain Mulh d b p q = (load_imm_is_plain d 0 p refl, tt)
first_zero_is_plain Mulhsu d b p q = (load_imm_is_plain d 0 p refl, tt)
first_zero_is_plain Mulhu d b p q = (load_imm_is_plain d 0 p refl, tt)
first_zero_is_plain Div d b p q = (set_lt_u_imm_is_plain d b 1 p q refl, (neg_add_imm_64_is_plain d d 0 p p refl, tt))
first_zero_is_plain Divu d b p q = (set_lt_u_imm_is_plain d b 1 p q refl, (neg_add_imm_64_is_plain d d 0 p p refl, tt))
first_zero_is_plain Rem d b p q = (load_imm_is_plain d 0 p refl, tt)
first_zero_is_plain Remu d b p q = (load_imm_is_plain d 0 p refl, tt)
first_zero_is_plain Addw d b p q = (add_imm_32_is_plain d b 0 p q refl, tt)
first_zero_is_plain Subw d b p q = (rrx_is_plain 141 d b 0 opcode.neg_add_imm_32_known opcode.neg_add_imm_32_form p q refl, tt)
first_zero_is_plain Sllw d b p q = (load_imm_is_plain d 0 p refl, tt)
first_zero_is_plain Srlw d b p q = (load_imm_is_plain d 0 p refl, tt)
first_zero_is_plain Sraw d b p q = (load_imm_is_plain d 0 p refl, tt)
first_zero_is_plain Mulw d b p q = (load_imm_is_plain d 0 p refl, tt)
first_zero_is_plain Divw d b p q = (add_imm_32_is_plain d b 0 p q refl, (set_lt_u_imm_is_plain d d 1 p p refl, (neg_add_imm_64_is_plain d d 0 p p refl, tt)))
first_zero_is_plain Divuw d b p q = (add_imm_32_is_plain d b 0 p q refl, (set_lt_u_imm_is_plain d d 1 p p refl, (neg_add_imm_64_is_plain d d 0 p p refl, tt)))
first_zero_is_plain Remw d b p q = (load_imm_is_plain d 0 p refl, tt)
first_zero_is_plain Remuw d b p q = (load_imm_is_plain d 0 p refl, tt)

-- the instructions of operations on immediates
immediates_are_plain : (op : AluImm) (rd rs1 : Reg) (imm : ℤ) → IsReg rd → IsReg rs1 → IsOperand op imm → AllByRecursion IsPlainInstr (lower_plain (rv.OpImm op rd rs1 imm))
immediates_are_plain op Zero rs1 imm p q h = tt
immediates_are_plain op (R d) Zero imm p q h = (load_imm_is_plain d (binary (of_alu_imm op) 0 (word_of imm)) p (constant_is_short op imm h), tt)
immediates_are_plain op (R d) (R a) imm p q h = (rrx_is_plain (alu_imm_opcode op) d a (word_of imm) (immediate_known op) (immediate_form op) p q (short imm (operand_is_signed op imm h)), tt)

-- and on registers
registers_are_plain : (op : Alu) (rd rs1 rs2 : Reg) → IsReg rd → IsReg rs1 → IsReg rs2 → AllByRecursion IsPlainInstr (lower_plain (rv.Op op rd rs1 rs2))
registers_are_plain op Zero rs1 rs2 p q r = tt
registers_are_plain op (R d) Zero Zero p q r = (load_imm_is_plain d (binary (of_alu op) 0 0) p (both_zero_is_short op), tt)
registers_are_plain op (R d) Zero (R b) p q r = first_zero_is_plain op d b p r
registers_are_plain op (R d) (R a) Zero p q r = second_zero_is_plain op d a p q
registers_are_plain op (R d) (R a) (R b) p q r = (rrr_is_plain (alu_opcode op) d a b (register_known op) (register_form op) p q r, tt)

-- of loads and stores
loads_are_plain : (width : LoadWidth) (rd rs1 : Reg) (imm : ℤ) → IsWritten rd → IsReg rs1 → IsSigned 32 imm → AllByRecursion IsPlainInstr (lower_plain (rv.Load width rd rs1 imm))
loads_are_plain width Zero rs1 imm p q h = tt
loads_are_plain width (R d) Zero imm p q h = (rx_is_plain (load_opcode width) d (word_of imm) (load_known width) (load_form width) p (short imm h), tt)
loads_are_plain width (R d) (R a) imm p q h = (rrx_is_plain (load_ind_opcode width) d a (word_of imm) (load_ind_known width) (load_ind_form width) p q (short imm h), tt)

stores_are_plain : (width : StoreWidth) (rs1 rs2 : Reg) (imm : ℤ) → IsReg rs1 → IsReg rs2 → IsSigned 32 imm → AllByRecursion IsPlainInstr (lower_plain (rv.Store width rs1 rs2 imm))
stores_are_plain width Zero Zero imm p q h = (xy_is_plain (store_imm_opcode width) (word_of imm) 0 (store_imm_known width) (store_imm_form width) (short imm h) refl, tt)
stores_are_plain width Zero (R b) imm p q h = (rx_is_plain (store_opcode width) b (word_of imm) (store_known width) (store_form width) q (short imm h), tt)
stores_are_plain width (R a) Zero imm p q h = (rxy_is_plain (store_imm_ind_opcode width) a (word_of imm) 0 (store_imm_ind_known width) (store_imm_ind_form width) p (short imm h) refl, tt)
stores_are_plain width (R a) (R b) imm p q h = (rrx_is_plain (store_ind_opcode width) b a (word_of imm) (store_ind_known width) (store_ind_form width) q p (short imm h), tt)

-- the instructions of what can be lowered alone
pub alone_is_plain : (op : RvOp) → IsLowerable op → AllByRecursion IsPlainInstr (lower_plain op)
alone_is_plain (rv.Lui Zero value) h = tt
alone_is_plain (rv.Lui (R d) value) h = (load_imm_is_plain d (word_of value) h.0 (short value h.1), tt)
alone_is_plain (rv.Auipc Zero value) h = tt
alone_is_plain (rv.Auipc (R d) value) h = (load_imm_is_plain d (word_of value) h.0 (short value h.1), tt)
alone_is_plain (rv.Load width rd rs1 imm) h = loads_are_plain width rd rs1 imm h.0 h.1 h.2
alone_is_plain (rv.Store width rs1 rs2 imm) h = stores_are_plain width rs1 rs2 imm h.0 h.1 h.2
alone_is_plain (rv.OpImm op rd rs1 imm) h = immediates_are_plain op rd rs1 imm h.0 h.1 h.2
alone_is_plain (rv.Op op rd rs1 rs2) h = registers_are_plain op rd rs1 rs2 h.0 h.1 h.2
alone_is_plain rv.Fence h = tt
alone_is_plain rv.Trap h = (trap_is_plain, tt)
alone_is_plain op h = absurd h
