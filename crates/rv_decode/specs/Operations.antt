-- The operation of each word (RISC-V unprivileged manual, "RV32/64G Instruction Set Listings").
use Rattle.std.specs.Prelude.{◌≡◌, ℕ, ◌+◌, ◌-◌, ◌*◌, ◌<◌, ◌%◌, ◌^◌, ℤ, pos, negsuc, ◌&&◌, ◌==◌, nat_le, if◌then◌else◌, Result, Ok, Err}
use Rattle.numbers.specs.Words.{field, signed_of}
use Rattle.rv_decode.specs.declared.ops.Reg.{Reg}
use Rattle.rv_decode.specs.declared.ops.Reg.TheVariants.{Zero, R}
use Rattle.rv_decode.specs.declared.ops.Cond.{Cond}
use Rattle.rv_decode.specs.declared.ops.Cond.TheVariants.{Eq, Ne, Lt, Ge, Ltu, Geu}
use Rattle.rv_decode.specs.declared.ops.LoadWidth.{LoadWidth}
use Rattle.rv_decode.specs.declared.ops.LoadWidth.TheVariants.{Lb, Lh, Lw, Ld, Lbu, Lhu, Lwu}
use Rattle.rv_decode.specs.declared.ops.StoreWidth.{StoreWidth}
use Rattle.rv_decode.specs.declared.ops.StoreWidth.TheVariants.{Sb, Sh, Sw, Sd}
use Rattle.rv_decode.specs.declared.ops.AluImm.{AluImm}
use Rattle.rv_decode.specs.declared.ops.AluImm.TheVariants.{Addi, Slti, Sltiu, Xori, Ori, Andi, Slli, Srli, Srai, Addiw, Slliw, Srliw, Sraiw}
use Rattle.rv_decode.specs.declared.ops.Alu.{Alu}
use Rattle.rv_decode.specs.declared.ops.Alu.TheVariants.{Add, Sub, Sll, Slt, Sltu, Xor, Srl, Sra, Or, And, Mul, Mulh, Mulhsu, Mulhu, Div, Divu, Rem, Remu, Addw, Subw, Sllw, Srlw, Sraw, Mulw, Divw, Divuw, Remw, Remuw}
use Rattle.rv_decode.specs.declared.ops.RvOp.{RvOp}
use Rattle.rv_decode.specs.declared.ops.RvOp.TheVariants.{Lui, Auipc, Jal, Jalr, Branch, Load, Store, OpImm, Op, Fence, Trap}
use Rattle.rv_decode.specs.declared.ops.WordFault.{WordFault}
use Rattle.rv_decode.specs.declared.ops.WordFault.TheVariants.{BadWord, BadRegister, Ecall, LoadToZero}

-- the fields of a word (manual, "Base Instruction Formats")
abbrev pub opcode : ℕ → ℕ
opcode word = field 0 7 word

abbrev pub rd_of : ℕ → ℕ
rd_of word = field 7 5 word

abbrev pub funct3 : ℕ → ℕ
funct3 word = field 12 3 word

abbrev pub rs1_of : ℕ → ℕ
rs1_of word = field 15 5 word

abbrev pub rs2_of : ℕ → ℕ
rs2_of word = field 20 5 word

abbrev pub funct7 : ℕ → ℕ
funct7 word = field 25 7 word

-- the six bits above the amount to shift 64 bits by, and the amounts to shift 64 and 32 bits by
abbrev pub funct6 : ℕ → ℕ
funct6 word = field 26 6 word

abbrev pub amount_64 : ℕ → ℕ
amount_64 word = field 20 6 word

abbrev pub amount_32 : ℕ → ℕ
amount_32 word = field 20 5 word

-- the immediates of the formats I, S, B, U and J (manual, "Immediate Encoding Variants")
unfoldable pub i_immediate : ℕ → ℤ
i_immediate word = signed_of 12 (field 20 12 word)

unfoldable pub s_immediate : ℕ → ℤ
s_immediate word = signed_of 12 (field 7 5 word + 2 ^ 5 * field 25 7 word)

unfoldable pub b_immediate : ℕ → ℤ
b_immediate word = signed_of 13 (2 * field 8 4 word + 2 ^ 5 * field 25 6 word + 2 ^ 11 * field 7 1 word + 2 ^ 12 * field 31 1 word)

unfoldable pub u_immediate : ℕ → ℤ
u_immediate word = signed_of 32 (2 ^ 12 * field 12 20 word)

unfoldable pub j_immediate : ℕ → ℤ
j_immediate word = signed_of 21 (2 * field 21 10 word + 2 ^ 11 * field 20 1 word + 2 ^ 12 * field 12 8 word + 2 ^ 20 * field 31 1 word)

-- a part of an operation, and what comes of it; the fault of the part, where it has one
abbrev pub and_then : {A B : Type 0} → Result A WordFault → (A → Result B WordFault) → Result B WordFault
and_then (Ok part) go = go part
and_then (Err fault) go = Err fault

-- x0, or the number in the PVM of x1, x2 and x5 to x15
unfoldable pub register_of : ℕ → Result Reg WordFault
register_of n =
    if n == 0 then Ok Zero else
    if nat_le n 2 then Ok (R (n - 1)) else
    if nat_le 5 n && nat_le n 15 then Ok (R (n - 3)) else Err BadRegister

-- the rows of the opcode BRANCH
unfoldable pub cond_of : ℕ → Result Cond WordFault
cond_of word =
    if funct3 word == 0 then Ok Eq else
    if funct3 word == 1 then Ok Ne else
    if funct3 word == 4 then Ok Lt else
    if funct3 word == 5 then Ok Ge else
    if funct3 word == 6 then Ok Ltu else
    if funct3 word == 7 then Ok Geu else Err BadWord

-- the rows of LOAD
unfoldable pub load_width_of : ℕ → Result LoadWidth WordFault
load_width_of word =
    if funct3 word == 0 then Ok Lb else
    if funct3 word == 1 then Ok Lh else
    if funct3 word == 2 then Ok Lw else
    if funct3 word == 3 then Ok Ld else
    if funct3 word == 4 then Ok Lbu else
    if funct3 word == 5 then Ok Lhu else
    if funct3 word == 6 then Ok Lwu else Err BadWord

-- the rows of STORE
unfoldable pub store_width_of : ℕ → Result StoreWidth WordFault
store_width_of word =
    if funct3 word == 0 then Ok Sb else
    if funct3 word == 1 then Ok Sh else
    if funct3 word == 2 then Ok Sw else
    if funct3 word == 3 then Ok Sd else Err BadWord

-- the shifts to the right among the rows of OP-IMM
unfoldable pub right_shift_of : ℕ → Result AluImm WordFault
right_shift_of word =
    if funct6 word == 0 then Ok Srli else
    if funct6 word == 0x10 then Ok Srai else Err BadWord

-- the rows of OP-IMM
unfoldable pub alu_imm_of : ℕ → Result AluImm WordFault
alu_imm_of word =
    if funct3 word == 0 then Ok Addi else
    if funct3 word == 1 && funct6 word == 0 then Ok Slli else
    if funct3 word == 2 then Ok Slti else
    if funct3 word == 3 then Ok Sltiu else
    if funct3 word == 4 then Ok Xori else
    if funct3 word == 5 then right_shift_of word else
    if funct3 word == 6 then Ok Ori else
    if funct3 word == 7 then Ok Andi else Err BadWord

-- the rows of OP-IMM-32
unfoldable pub alu_imm_32_of : ℕ → Result AluImm WordFault
alu_imm_32_of word =
    if funct3 word == 0 then Ok Addiw else
    if funct3 word == 1 && funct7 word == 0 then Ok Slliw else
    if funct3 word == 5 && funct7 word == 0 then Ok Srliw else
    if funct3 word == 5 && funct7 word == 0x20 then Ok Sraiw else Err BadWord

-- the rows of OP with funct7 0, with 0x20, and with 1, which are those of the extension M
unfoldable pub base_of : ℕ → Result Alu WordFault
base_of word =
    if funct3 word == 0 then Ok Add else
    if funct3 word == 1 then Ok Sll else
    if funct3 word == 2 then Ok Slt else
    if funct3 word == 3 then Ok Sltu else
    if funct3 word == 4 then Ok Xor else
    if funct3 word == 5 then Ok Srl else
    if funct3 word == 6 then Ok Or else
    if funct3 word == 7 then Ok And else Err BadWord

unfoldable pub alternate_of : ℕ → Result Alu WordFault
alternate_of word =
    if funct3 word == 0 then Ok Sub else
    if funct3 word == 5 then Ok Sra else Err BadWord

unfoldable pub multiply_of : ℕ → Result Alu WordFault
multiply_of word =
    if funct3 word == 0 then Ok Mul else
    if funct3 word == 1 then Ok Mulh else
    if funct3 word == 2 then Ok Mulhsu else
    if funct3 word == 3 then Ok Mulhu else
    if funct3 word == 4 then Ok Div else
    if funct3 word == 5 then Ok Divu else
    if funct3 word == 6 then Ok Rem else
    if funct3 word == 7 then Ok Remu else Err BadWord

-- the rows of OP
unfoldable pub alu_of : ℕ → Result Alu WordFault
alu_of word =
    if funct7 word == 0 then base_of word else
    if funct7 word == 0x20 then alternate_of word else
    if funct7 word == 1 then multiply_of word else Err BadWord

-- the rows of OP-32 with funct7 0, with 0x20 and with 1
unfoldable pub base_32_of : ℕ → Result Alu WordFault
base_32_of word =
    if funct3 word == 0 then Ok Addw else
    if funct3 word == 1 then Ok Sllw else
    if funct3 word == 5 then Ok Srlw else Err BadWord

unfoldable pub alternate_32_of : ℕ → Result Alu WordFault
alternate_32_of word =
    if funct3 word == 0 then Ok Subw else
    if funct3 word == 5 then Ok Sraw else Err BadWord

unfoldable pub multiply_32_of : ℕ → Result Alu WordFault
multiply_32_of word =
    if funct3 word == 0 then Ok Mulw else
    if funct3 word == 4 then Ok Divw else
    if funct3 word == 5 then Ok Divuw else
    if funct3 word == 6 then Ok Remw else
    if funct3 word == 7 then Ok Remuw else Err BadWord

-- the rows of OP-32
unfoldable pub alu_32_of : ℕ → Result Alu WordFault
alu_32_of word =
    if funct7 word == 0 then base_32_of word else
    if funct7 word == 0x20 then alternate_32_of word else
    if funct7 word == 1 then multiply_32_of word else Err BadWord

-- the immediate of an operation on a register and an immediate: format I, or the amount of a shift
unfoldable pub immediate_of : AluImm → ℕ → ℤ
immediate_of Slli word = pos (amount_64 word)
immediate_of Srli word = pos (amount_64 word)
immediate_of Srai word = pos (amount_64 word)
immediate_of Slliw word = pos (amount_32 word)
immediate_of Srliw word = pos (amount_32 word)
immediate_of Sraiw word = pos (amount_32 word)
immediate_of op word = i_immediate word

-- A word with each opcode. The parts come in the order of their faults: what the word is, its registers, and what it
-- does with them.
unfoldable pub of_lui : ℕ → Result RvOp WordFault
of_lui word = and_then (register_of (rd_of word)) (λ rd. Ok (Lui rd (u_immediate word)))

unfoldable pub of_auipc : ℕ → Result RvOp WordFault
of_auipc word = and_then (register_of (rd_of word)) (λ rd. Ok (Auipc rd (u_immediate word)))

unfoldable pub of_jal : ℕ → Result RvOp WordFault
of_jal word = and_then (register_of (rd_of word)) (λ rd. Ok (Jal rd (j_immediate word)))

unfoldable pub of_jalr : ℕ → Result RvOp WordFault
of_jalr word =
    if funct3 word == 0 then
    and_then (register_of (rd_of word)) (λ rd.
    and_then (register_of (rs1_of word)) (λ rs1.
    Ok (Jalr rd rs1 (i_immediate word))))
    else Err BadWord

unfoldable pub of_branch : ℕ → Result RvOp WordFault
of_branch word =
    and_then (cond_of word) (λ cond.
    and_then (register_of (rs1_of word)) (λ rs1.
    and_then (register_of (rs2_of word)) (λ rs2.
    Ok (Branch cond rs1 rs2 (b_immediate word)))))

abbrev pub load_into : LoadWidth → Reg → Reg → ℤ → Result RvOp WordFault
load_into width Zero rs1 imm = Err LoadToZero
load_into width (R n) rs1 imm = Ok (Load width (R n) rs1 imm)

unfoldable pub of_load : ℕ → Result RvOp WordFault
of_load word =
    and_then (load_width_of word) (λ width.
    and_then (register_of (rd_of word)) (λ rd.
    and_then (register_of (rs1_of word)) (λ rs1.
    load_into width rd rs1 (i_immediate word))))

unfoldable pub of_store : ℕ → Result RvOp WordFault
of_store word =
    and_then (store_width_of word) (λ width.
    and_then (register_of (rs1_of word)) (λ rs1.
    and_then (register_of (rs2_of word)) (λ rs2.
    Ok (Store width rs1 rs2 (s_immediate word)))))

-- an operation on a register and an immediate, in its registers
abbrev pub with_immediate : Result AluImm WordFault → ℕ → Result RvOp WordFault
with_immediate row word =
    and_then row (λ op.
    and_then (register_of (rd_of word)) (λ rd.
    and_then (register_of (rs1_of word)) (λ rs1.
    Ok (OpImm op rd rs1 (immediate_of op word)))))

unfoldable pub of_op_imm : ℕ → Result RvOp WordFault
of_op_imm word = with_immediate (alu_imm_of word) word

unfoldable pub of_op_imm_32 : ℕ → Result RvOp WordFault
of_op_imm_32 word = with_immediate (alu_imm_32_of word) word

-- an operation on two registers, in its registers
abbrev pub with_registers : Result Alu WordFault → ℕ → Result RvOp WordFault
with_registers row word =
    and_then row (λ op.
    and_then (register_of (rd_of word)) (λ rd.
    and_then (register_of (rs1_of word)) (λ rs1.
    and_then (register_of (rs2_of word)) (λ rs2.
    Ok (Op op rd rs1 rs2)))))

unfoldable pub of_op : ℕ → Result RvOp WordFault
of_op word = with_registers (alu_of word) word

unfoldable pub of_op_32 : ℕ → Result RvOp WordFault
of_op_32 word = with_registers (alu_32_of word) word

-- a fence orders nothing here, whatever its other bits say
unfoldable pub of_misc_mem : ℕ → Result RvOp WordFault
of_misc_mem word = if funct3 word == 0 then Ok Fence else Err BadWord

-- ebreak and unimp are traps, and no ecall is taken
unfoldable pub of_system : ℕ → Result RvOp WordFault
of_system word =
    if word == 0x00100073 then Ok Trap else
    if word == 0xc0001073 then Ok Trap else
    if word == 0x00000073 then Err Ecall else Err BadWord

-- The operation of a word, by its opcode, or the first of BadWord, BadRegister, Ecall and LoadToZero that holds.
unfoldable pub operation : ℕ → Result RvOp WordFault
operation word =
    if opcode word == 0x37 then of_lui word else
    if opcode word == 0x17 then of_auipc word else
    if opcode word == 0x6f then of_jal word else
    if opcode word == 0x67 then of_jalr word else
    if opcode word == 0x63 then of_branch word else
    if opcode word == 0x03 then of_load word else
    if opcode word == 0x23 then of_store word else
    if opcode word == 0x13 then of_op_imm word else
    if opcode word == 0x1b then of_op_imm_32 word else
    if opcode word == 0x33 then of_op word else
    if opcode word == 0x3b then of_op_32 word else
    if opcode word == 0x0f then of_misc_mem word else
    if opcode word == 0x73 then of_system word else Err BadWord

-- a register's number in the PVM is below 13
abbrev pub IsReg : Reg → Type 0
IsReg Zero = Unit {0}
IsReg (R n) = n < 13

-- a register other than x0
abbrev pub IsWritten : Reg → Type 0
IsWritten Zero = ⊥
IsWritten (R n) = n < 13

-- a signed number of `bits` bits
abbrev pub IsSigned : ℕ → ℤ → Type 0
IsSigned bits (pos n) = n < 2 ^ (bits - 1)
IsSigned bits (negsuc n) = n < 2 ^ (bits - 1)

-- a multiple of a number
abbrev pub IsMultiple : ℕ → ℤ → Type 0
IsMultiple of (pos n) = n % of ≡ 0
IsMultiple of (negsuc n) = (n + 1) % of ≡ 0

-- an amount to shift by, below a number of bits
abbrev pub IsAmount : ℕ → ℤ → Type 0
IsAmount bits (pos n) = n < bits
IsAmount bits (negsuc n) = ⊥

-- an immediate of 12 bits, or an amount to shift 64 or 32 bits by
abbrev pub IsImmediate : AluImm → ℤ → Type 0
IsImmediate Addi imm = IsSigned 12 imm
IsImmediate Slti imm = IsSigned 12 imm
IsImmediate Sltiu imm = IsSigned 12 imm
IsImmediate Xori imm = IsSigned 12 imm
IsImmediate Ori imm = IsSigned 12 imm
IsImmediate Andi imm = IsSigned 12 imm
IsImmediate Slli imm = IsAmount 64 imm
IsImmediate Srli imm = IsAmount 64 imm
IsImmediate Srai imm = IsAmount 64 imm
IsImmediate Addiw imm = IsSigned 12 imm
IsImmediate Slliw imm = IsAmount 32 imm
IsImmediate Srliw imm = IsAmount 32 imm
IsImmediate Sraiw imm = IsAmount 32 imm

-- what a word may have as its operation: registers that the PVM has, and immediates in the range of their format
abbrev pub IsOp : RvOp → Type 0
IsOp (Lui rd value) = IsReg rd × IsSigned 32 value × IsMultiple 4096 value
IsOp (Auipc rd value) = IsReg rd × IsSigned 32 value × IsMultiple 4096 value
IsOp (Jal rd offset) = IsReg rd × IsSigned 21 offset × IsMultiple 2 offset
IsOp (Jalr rd rs1 imm) = IsReg rd × IsReg rs1 × IsSigned 12 imm
IsOp (Branch cond rs1 rs2 offset) = IsReg rs1 × IsReg rs2 × IsSigned 13 offset × IsMultiple 2 offset
IsOp (Load width rd rs1 imm) = IsWritten rd × IsReg rs1 × IsSigned 12 imm
IsOp (Store width rs1 rs2 imm) = IsReg rs1 × IsReg rs2 × IsSigned 12 imm
IsOp (OpImm op rd rs1 imm) = IsReg rd × IsReg rs1 × IsImmediate op imm
IsOp (Op op rd rs1 rs2) = IsReg rd × IsReg rs1 × IsReg rs2
IsOp Fence = Unit {0}
IsOp Trap = Unit {0}
