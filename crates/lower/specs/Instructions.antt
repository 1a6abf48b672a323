-- The instructions that operations are lowered to beside the trap (JAM Gray Paper 0.7.0, appendix A, "Instruction
-- Tables"): by their forms, with an opcode, and by their names. Fields that a form does not use are 0.
use Rattle.std.specs.Prelude.{ℕ}
use Rattle.pvm_ops.specs.declared.instr.Instr.{Instr}

-- a register and an immediate; two registers, the first of which is written
abbrev pub rx : ℕ → ℕ → ℕ → Instr
rx op a x = record { op = op; a = a; b = 0; d = 0; x = x; y = 0 }

abbrev pub rr : ℕ → ℕ → ℕ → Instr
rr op d a = record { op = op; a = a; b = 0; d = d; x = 0; y = 0 }

-- two registers and an immediate; three registers, the first of which is written
abbrev pub rrx : ℕ → ℕ → ℕ → ℕ → Instr
rrx op a b x = record { op = op; a = a; b = b; d = 0; x = x; y = 0 }

abbrev pub rrr : ℕ → ℕ → ℕ → ℕ → Instr
rrr op d a b = record { op = op; a = a; b = b; d = d; x = 0; y = 0 }

-- two immediates; a register and two immediates
abbrev pub xy : ℕ → ℕ → ℕ → Instr
xy op x y = record { op = op; a = 0; b = 0; d = 0; x = x; y = y }

abbrev pub rxy : ℕ → ℕ → ℕ → ℕ → Instr
rxy op a x y = record { op = op; a = a; b = 0; d = 0; x = x; y = y }

-- two registers and an offset
abbrev pub rro : ℕ → ℕ → ℕ → Instr
rro op a b = record { op = op; a = a; b = b; d = 0; x = 0; y = 0 }

-- a register, an immediate and an offset
abbrev pub rxo : ℕ → ℕ → ℕ → Instr
rxo op a x = record { op = op; a = a; b = 0; d = 0; x = x; y = 0 }

abbrev pub jump : Instr
jump = record { op = 40; a = 0; b = 0; d = 0; x = 0; y = 0 }

abbrev pub load_imm_jump : ℕ → ℕ → Instr
load_imm_jump a x = rxo 80 a x

abbrev pub load_imm_jump_ind : ℕ → ℕ → ℕ → ℕ → Instr
load_imm_jump_ind a b x y = record { op = 180; a = a; b = b; d = 0; x = x; y = y }

-- a call of the host by its number, and sbrk by the size in a register
abbrev pub ecalli : ℕ → Instr
ecalli x = record { op = 10; a = 0; b = 0; d = 0; x = x; y = 0 }

abbrev pub sbrk : ℕ → ℕ → Instr
sbrk d a = rr 101 d a

abbrev pub fallthrough : Instr
fallthrough = record { op = 1; a = 0; b = 0; d = 0; x = 0; y = 0 }

abbrev pub jump_ind : ℕ → ℕ → Instr
jump_ind a x = rx 50 a x

abbrev pub load_imm : ℕ → ℕ → Instr
load_imm a x = rx 51 a x

-- with an immediate of 64 bits
abbrev pub load_imm_64 : ℕ → ℕ → Instr
load_imm_64 a x = rx 20 a x

abbrev pub move_reg : ℕ → ℕ → Instr
move_reg d a = rr 100 d a

abbrev pub add_imm_32 : ℕ → ℕ → ℕ → Instr
add_imm_32 a b x = rrx 131 a b x

abbrev pub set_lt_u_imm : ℕ → ℕ → ℕ → Instr
set_lt_u_imm a b x = rrx 136 a b x

abbrev pub set_lt_s_imm : ℕ → ℕ → ℕ → Instr
set_lt_s_imm a b x = rrx 137 a b x

abbrev pub neg_add_imm_32 : ℕ → ℕ → ℕ → Instr
neg_add_imm_32 a b x = rrx 141 a b x

abbrev pub set_gt_u_imm : ℕ → ℕ → ℕ → Instr
set_gt_u_imm a b x = rrx 142 a b x

abbrev pub set_gt_s_imm : ℕ → ℕ → ℕ → Instr
set_gt_s_imm a b x = rrx 143 a b x

abbrev pub add_imm_64 : ℕ → ℕ → ℕ → Instr
add_imm_64 a b x = rrx 149 a b x

abbrev pub neg_add_imm_64 : ℕ → ℕ → ℕ → Instr
neg_add_imm_64 a b x = rrx 154 a b x
