-- The instructions of an operation that is no jump and no branch.
use Rattle.std.specs.Prelude.{ℕ, ◌-◌, ◌^◌, List, [], ◌∷◌, take}
use Rattle.numbers.specs.Words.{word_of}
use Rattle.arithmetic.specs.Operations.{binary}
use Rattle.rv_decode.specs.declared.ops.Reg.TheVariants.{Zero, R}
use Rattle.rv_decode.specs.declared.ops.LoadWidth.{LoadWidth}
use Rattle.rv_decode.specs.declared.ops.LoadWidth.TheVariants.{Lb, Lh, Lw, Ld, Lbu, Lhu, Lwu}
use Rattle.rv_decode.specs.declared.ops.StoreWidth.{StoreWidth}
use Rattle.rv_decode.specs.declared.ops.StoreWidth.TheVariants.{Sb, Sh, Sw, Sd}
use Rattle.rv_decode.specs.declared.ops.AluImm.{AluImm}
use Rattle.rv_decode.specs.declared.ops.AluImm.TheVariants.{Addi, Slti, Sltiu, Xori, Ori, Andi, Slli, Srli, Srai, Addiw, Slliw, Srliw, Sraiw}
use Rattle.rv_decode.specs.declared.ops.Alu.{Alu}
use Rattle.rv_decode.specs.declared.ops.Alu.TheVariants.{Add, Sub, Sll, Slt, Sltu, Xor, Srl, Sra, Or, And, Mul, Mulh, Mulhsu, Mulhu, Div, Divu, Rem, Remu, Addw, Subw, Sllw, Srlw, Sraw, Mulw, Divw, Divuw, Remw, Remuw}
use Rattle.rv_decode.specs.declared.ops.RvOp.{RvOp}
use Rattle.rv_decode.specs.declared.ops.RvOp.TheVariants as rv
use Rattle.lift_blocks.specs.Arithmetic.{of_alu_imm, of_alu}
use Rattle.lift_blocks.specs.Fits.{PlainFits}
use Rattle.pvm_ops.specs.declared.instr.Instr.{Instr}
use Rattle.pvm_ops.specs.Fetch.{trap}
use Rattle.lower.specs.declared.forms.Three.{Three}
use Rattle.lower.specs.Instructions.{rx, rrx, rrr, xy, rxy, load_imm, move_reg, add_imm_32, set_lt_u_imm, set_lt_s_imm, neg_add_imm_32, set_gt_u_imm, set_gt_s_imm, neg_add_imm_64}

-- the instruction of an operation on a register and an immediate, by its opcode
abbrev pub alu_imm_opcode : AluImm → ℕ
alu_imm_opcode Addi = 149
alu_imm_opcode Slti = 137
alu_imm_opcode Sltiu = 136
alu_imm_opcode Xori = 133
alu_imm_opcode Ori = 134
alu_imm_opcode Andi = 132
alu_imm_opcode Slli = 151
alu_imm_opcode Srli = 152
alu_imm_opcode Srai = 153
alu_imm_opcode Addiw = 131
alu_imm_opcode Slliw = 138
alu_imm_opcode Srliw = 139
alu_imm_opcode Sraiw = 140

-- that of an operation on two registers
abbrev pub alu_opcode : Alu → ℕ
alu_opcode Add = 200
alu_opcode Sub = 201
alu_opcode Sll = 207
alu_opcode Slt = 217
alu_opcode Sltu = 216
alu_opcode Xor = 211
alu_opcode Srl = 208
alu_opcode Sra = 209
alu_opcode Or = 212
alu_opcode And = 210
alu_opcode Mul = 202
alu_opcode Mulh = 213
alu_opcode Mulhsu = 215
alu_opcode Mulhu = 214
alu_opcode Div = 204
alu_opcode Divu = 203
alu_opcode Rem = 206
alu_opcode Remu = 205
alu_opcode Addw = 190
alu_opcode Subw = 191
alu_opcode Sllw = 197
alu_opcode Srlw = 198
alu_opcode Sraw = 199
alu_opcode Mulw = 192
alu_opcode Divw = 194
alu_opcode Divuw = 193
alu_opcode Remw = 196
alu_opcode Remuw = 195

-- those of a load, from an immediate address and from a register and an immediate
abbrev pub load_opcode : LoadWidth → ℕ
load_opcode Lb = 53
load_opcode Lh = 55
load_opcode Lw = 57
load_opcode Ld = 58
load_opcode Lbu = 52
load_opcode Lhu = 54
load_opcode Lwu = 56

abbrev pub load_ind_opcode : LoadWidth → ℕ
load_ind_opcode Lb = 125
load_ind_opcode Lh = 127
load_ind_opcode Lw = 129
load_ind_opcode Ld = 130
load_ind_opcode Lbu = 124
load_ind_opcode Lhu = 126
load_ind_opcode Lwu = 128

-- those of a store of a register or of an immediate, at an immediate address and at a register and an immediate
abbrev pub store_opcode : StoreWidth → ℕ
store_opcode Sb = 59
store_opcode Sh = 60
store_opcode Sw = 61
store_opcode Sd = 62

abbrev pub store_ind_opcode : StoreWidth → ℕ
store_ind_opcode Sb = 120
store_ind_opcode Sh = 121
store_ind_opcode Sw = 122
store_ind_opcode Sd = 123

abbrev pub store_imm_opcode : StoreWidth → ℕ
store_imm_opcode Sb = 30
store_imm_opcode Sh = 31
store_imm_opcode Sw = 32
store_imm_opcode Sd = 33

abbrev pub store_imm_ind_opcode : StoreWidth → ℕ
store_imm_ind_opcode Sb = 70
store_imm_ind_opcode Sh = 71
store_imm_ind_opcode Sw = 72
store_imm_ind_opcode Sd = 73

-- The instructions of an operation on a register and x0, into d. A quotient by zero is all ones, and a remainder by
-- zero the dividend.
abbrev pub with_second_zero : Alu → ℕ → ℕ → List Instr
with_second_zero Add d a = move_reg d a ∷ []
with_second_zero Sub d a = move_reg d a ∷ []
with_second_zero Sll d a = move_reg d a ∷ []
with_second_zero Slt d a = set_lt_s_imm d a 0 ∷ []
with_second_zero Sltu d a = load_imm d 0 ∷ []
with_second_zero Xor d a = move_reg d a ∷ []
with_second_zero Srl d a = move_reg d a ∷ []
with_second_zero Sra d a = move_reg d a ∷ []
with_second_zero Or d a = move_reg d a ∷ []
with_second_zero And d a = load_imm d 0 ∷ []
with_second_zero Mul d a = load_imm d 0 ∷ []
with_second_zero Mulh d a = load_imm d 0 ∷ []
with_second_zero Mulhsu d a = load_imm d 0 ∷ []
with_second_zero Mulhu d a = load_imm d 0 ∷ []
with_second_zero Div d a = load_imm d (2 ^ 64 - 1) ∷ []
with_second_zero Divu d a = load_imm d (2 ^ 64 - 1) ∷ []
with_second_zero Rem d a = move_reg d a ∷ []
with_second_zero Remu d a = move_reg d a ∷ []
with_second_zero Addw d a = add_imm_32 d a 0 ∷ []
with_second_zero Subw d a = add_imm_32 d a 0 ∷ []
with_second_zero Sllw d a = add_imm_32 d a 0 ∷ []
with_second_zero Srlw d a = add_imm_32 d a 0 ∷ []
with_second_zero Sraw d a = add_imm_32 d a 0 ∷ []
with_second_zero Mulw d a = load_imm d 0 ∷ []
with_second_zero Divw d a = load_imm d (2 ^ 64 - 1) ∷ []
with_second_zero Divuw d a = load_imm d (2 ^ 64 - 1) ∷ []
with_second_zero Remw d a = add_imm_32 d a 0 ∷ []
with_second_zero Remuw d a = add_imm_32 d a 0 ∷ []

-- Those of an operation on x0 and a register. A quotient of 0 is all ones where the register, its divisor, is 0, and
-- else 0.
abbrev pub with_first_zero : Alu → ℕ → ℕ → List Instr
with_first_zero Add d b = move_reg d b ∷ []
with_first_zero Sub d b = neg_add_imm_64 d b 0 ∷ []
with_first_zero Sll d b = load_imm d 0 ∷ []
with_first_zero Slt d b = set_gt_s_imm d b 0 ∷ []
with_first_zero Sltu d b = set_gt_u_imm d b 0 ∷ []
with_first_zero Xor d b = move_reg d b ∷ []
with_first_zero Srl d b = load_imm d 0 ∷ []
with_first_zero Sra d b = load_imm d 0 ∷ []
with_first_zero Or d b = move_reg d b ∷ []
with_first_zero And d b = load_imm d 0 ∷ []
with_first_zero Mul d b = load_imm d 0 ∷ []
with_first_zero Mulh d b = load_imm d 0 ∷ []
with_first_zero Mulhsu d b = load_imm d 0 ∷ []
with_first_zero Mulhu d b = load_imm d 0 ∷ []
with_first_zero Div d b = set_lt_u_imm d b 1 ∷ neg_add_imm_64 d d 0 ∷ []
with_first_zero Divu d b = set_lt_u_imm d b 1 ∷ neg_add_imm_64 d d 0 ∷ []
with_first_zero Rem d b = load_imm d 0 ∷ []
with_first_zero Remu d b = load_imm d 0 ∷ []
with_first_zero Addw d b = add_imm_32 d b 0 ∷ []
with_first_zero Subw d b = neg_add_imm_32 d b 0 ∷ []
with_first_zero Sllw d b = load_imm d 0 ∷ []
with_first_zero Srlw d b = load_imm d 0 ∷ []
with_first_zero Sraw d b = load_imm d 0 ∷ []
with_first_zero Mulw d b = load_imm d 0 ∷ []
with_first_zero Divw d b = add_imm_32 d b 0 ∷ set_lt_u_imm d d 1 ∷ neg_add_imm_64 d d 0 ∷ []
with_first_zero Divuw d b = add_imm_32 d b 0 ∷ set_lt_u_imm d d 1 ∷ neg_add_imm_64 d d 0 ∷ []
with_first_zero Remw d b = load_imm d 0 ∷ []
with_first_zero Remuw d b = load_imm d 0 ∷ []

-- The instructions of an operation that is no jump and no branch. A write to x0 needs none, and what is computed of x0
-- alone is a constant.
abbrev pub lower_plain : RvOp → List Instr
lower_plain (rv.Lui Zero value) = []
lower_plain (rv.Lui (R d) value) = load_imm d (word_of value) ∷ []
lower_plain (rv.Auipc Zero value) = []
lower_plain (rv.Auipc (R d) value) = load_imm d (word_of value) ∷ []
lower_plain (rv.Load width Zero rs1 imm) = []
lower_plain (rv.Load width (R d) Zero imm) = rx (load_opcode width) d (word_of imm) ∷ []
lower_plain (rv.Load width (R d) (R a) imm) = rrx (load_ind_opcode width) d a (word_of imm) ∷ []
lower_plain (rv.Store width Zero Zero imm) = xy (store_imm_opcode width) (word_of imm) 0 ∷ []
lower_plain (rv.Store width Zero (R b) imm) = rx (store_opcode width) b (word_of imm) ∷ []
lower_plain (rv.Store width (R a) Zero imm) = rxy (store_imm_ind_opcode width) a (word_of imm) 0 ∷ []
lower_plain (rv.Store width (R a) (R b) imm) = rrx (store_ind_opcode width) b a (word_of imm) ∷ []
lower_plain (rv.OpImm op Zero rs1 imm) = []
lower_plain (rv.OpImm op (R d) Zero imm) = load_imm d (binary (of_alu_imm op) 0 (word_of imm)) ∷ []
lower_plain (rv.OpImm op (R d) (R a) imm) = rrx (alu_imm_opcode op) d a (word_of imm) ∷ []
lower_plain (rv.Op op Zero rs1 rs2) = []
lower_plain (rv.Op op (R d) Zero Zero) = load_imm d (binary (of_alu op) 0 0) ∷ []
lower_plain (rv.Op op (R d) Zero (R b)) = with_first_zero op d b
lower_plain (rv.Op op (R d) (R a) Zero) = with_second_zero op d a
lower_plain (rv.Op op (R d) (R a) (R b)) = rrr (alu_opcode op) d a b ∷ []
lower_plain rv.Trap = trap ∷ []
lower_plain op = []

-- an operation that can be lowered alone: no jump and no branch, and one that instructions can hold
abbrev pub IsLowerable : RvOp → Type 0
IsLowerable op = PlainFits op

-- at most three instructions, with the trap, which is all zero, in the places that are not used
abbrev pub three_of : List Instr → Three
three_of [] = record { count = 0; first = trap; second = trap; third = trap }
three_of (i ∷ []) = record { count = 1; first = i; second = trap; third = trap }
three_of (i ∷ j ∷ []) = record { count = 2; first = i; second = j; third = trap }
three_of (i ∷ j ∷ k ∷ rest) = record { count = 3; first = i; second = j; third = k }

-- the instructions that are there
abbrev pub listed : Three → List Instr
listed t = take t.count (t.first ∷ t.second ∷ t.third ∷ [])
