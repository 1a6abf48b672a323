-- Every operation of a word is in its ranges.
use Rattle.std.proofs.Common.{◌≡◌, ℕ, ◌+◌, ◌*◌, ◌<◌, ◌^◌, Bool, true, false, ℤ, Result, Ok, Err, IfOk, arith}
use Rattle.std.specs.Prelude.{◌==◌, if◌then◌else◌}
use Rattle.std.proofs.lemmas.Bool.Decides.{nat_tests}
use Rattle.numbers.specs.Words.{field, signed_of}
use Rattle.rv_decode.specs.Operations.{operation, register_of, and_then, i_immediate, s_immediate, b_immediate, u_immediate, j_immediate, immediate_of, cond_of, load_width_of, store_width_of, alu_imm_of, alu_imm_32_of, alu_of, alu_32_of, with_immediate, with_registers, load_into, rd_of, rs1_of, rs2_of, opcode, funct3, of_lui, of_auipc, of_jal, of_jalr, of_branch, of_load, of_store, of_op_imm, of_op_imm_32, of_op, of_op_32, of_misc_mem, of_system, IsOp, IsReg, IsSigned, IsMultiple, IsImmediate}
use Rattle.rv_decode.specs.declared.ops.Reg.{Reg}
use Rattle.rv_decode.specs.declared.ops.Reg.TheVariants.{Zero, R}
use Rattle.rv_decode.specs.declared.ops.AluImm.{AluImm}
use Rattle.rv_decode.specs.declared.ops.AluImm.TheVariants.{Addi, Slti, Sltiu, Xori, Ori, Andi, Slli, Srli, Srai, Addiw, Slliw, Srliw, Sraiw}
use Rattle.rv_decode.specs.declared.ops.Alu.{Alu}
use Rattle.rv_decode.specs.declared.ops.LoadWidth.{LoadWidth}
use Rattle.rv_decode.specs.declared.ops.RvOp.{RvOp}
use Rattle.rv_decode.specs.declared.ops.WordFault.{WordFault}

-- a register of a word
register_is_reg : (n : ℕ) → IfOk (register_of n) IsReg
unfolding register_of
register_is_reg n = grind (arith, nat_tests)

-- signed immediates of 12 bits
i_is_signed : (word : ℕ) → IsSigned 12 (i_immediate word)
unfolding i_immediate
i_is_signed word = grind (arith, nat_tests)

s_is_signed : (word : ℕ) → IsSigned 12 (s_immediate word)
unfolding s_immediate
s_is_signed word = grind (arith, nat_tests)

-- an even number of 13 bits
even_13 : (half : ℕ) → half < 4096 → IsSigned 13 (signed_of 13 (2 * half)) × IsMultiple 2 (signed_of 13 (2 * half))
even_13 half lt = (grind (arith, nat_tests), grind (arith, nat_tests))

b_is_even : (word : ℕ) → IsSigned 13 (b_immediate word) × IsMultiple 2 (b_immediate word)
unfolding b_immediate
b_is_even word =
    let half = field 8 4 word + 2 ^ 4 * field 25 6 word + 2 ^ 10 * field 7 1 word + 2 ^ 11 * field 31 1 word in
    let e : 2 * field 8 4 word + 2 ^ 5 * field 25 6 word + 2 ^ 11 * field 7 1 word + 2 ^ 12 * field 31 1 word ≡ 2 * half = omega arith in
    rw e (even_13 half (omega arith))

-- an even number of 21 bits
even_21 : (half : ℕ) → half < 1048576 → IsSigned 21 (signed_of 21 (2 * half)) × IsMultiple 2 (signed_of 21 (2 * half))
even_21 half lt = (grind (arith, nat_tests), grind (arith, nat_tests))

j_is_even : (word : ℕ) → IsSigned 21 (j_immediate word) × IsMultiple 2 (j_immediate word)
unfolding j_immediate
j_is_even word =
    let half = field 21 10 word + 2 ^ 10 * field 20 1 word + 2 ^ 11 * field 12 8 word + 2 ^ 19 * field 31 1 word in
    let e : 2 * field 21 10 word + 2 ^ 11 * field 20 1 word + 2 ^ 12 * field 12 8 word + 2 ^ 20 * field 31 1 word ≡ 2 * half = omega arith in
    rw e (even_21 half (omega arith))

-- a multiple of 4096 of 32 bits
upper_32 : (upper : ℕ) → upper < 1048576 → IsSigned 32 (signed_of 32 (4096 * upper)) × IsMultiple 4096 (signed_of 32 (4096 * upper))
upper_32 upper lt = (grind (arith, nat_tests), grind (arith, nat_tests))

u_is_upper : (word : ℕ) → IsSigned 32 (u_immediate word) × IsMultiple 4096 (u_immediate word)
unfolding u_immediate
u_is_upper word = upper_32 (field 12 20 word) (omega arith)

-- the immediate of each operation
immediate_is : (op : AluImm) (word : ℕ) → IsImmediate op (immediate_of op word)
unfolding immediate_of
immediate_is Addi word = i_is_signed word
immediate_is Slti word = i_is_signed word
immediate_is Sltiu word = i_is_signed word
immediate_is Xori word = i_is_signed word
immediate_is Ori word = i_is_signed word
immediate_is Andi word = i_is_signed word
immediate_is Slli word = omega arith
immediate_is Srli word = omega arith
immediate_is Srai word = omega arith
immediate_is Addiw word = i_is_signed word
immediate_is Slliw word = omega arith
immediate_is Srliw word = omega arith
immediate_is Sraiw word = omega arith

-- what follows from a part that has a property, if each value with the property gives something good
then_is : {A B : Type 0} (P : A → Type 0) (Q : B → Type 0) (part : Result A WordFault) (go : A → Result B WordFault) → IfOk part P → ((a : A) → P a → IfOk (go a) Q) → IfOk (and_then part go) Q
then_is P Q (Ok a) go p q = q a p
then_is P Q (Err fault) go p q = tt

-- any part, where nothing is known of it
abbrev IsAny : {A : Type 0} → A → Type 0
IsAny a = Unit {0}

any_is : {A : Type 0} (part : Result A WordFault) → IfOk part IsAny
any_is (Ok a) = tt
any_is (Err fault) = tt

-- a register and what comes of it
reg_then : (n : ℕ) (go : Reg → Result RvOp WordFault) → ((r : Reg) → IsReg r → IfOk (go r) IsOp) → IfOk (and_then (register_of n) go) IsOp
reg_then n go q = then_is IsReg IsOp (register_of n) go (register_is_reg n) q

-- what a word is and what comes of it
row_then : {A : Type 0} (row : Result A WordFault) (go : A → Result RvOp WordFault) → ((a : A) → IfOk (go a) IsOp) → IfOk (and_then row go) IsOp
row_then row go q = then_is IsAny IsOp row go (any_is row) (λ a p. q a)

-- one of two, by a test
either_is : (b : Bool) (x y : Result RvOp WordFault) → IfOk x IsOp → IfOk y IsOp → IfOk (if b then x else y) IsOp
either_is true x y p q = p
either_is false x y p q = q

-- each row of opcodes
lui_is : (word : ℕ) → IfOk (of_lui word) IsOp
unfolding of_lui
lui_is word = reg_then (rd_of word) _ (λ rd p. (p, (u_is_upper word).0, (u_is_upper word).1))

auipc_is : (word : ℕ) → IfOk (of_auipc word) IsOp
unfolding of_auipc
auipc_is word = reg_then (rd_of word) _ (λ rd p. (p, (u_is_upper word).0, (u_is_upper word).1))

jal_is : (word : ℕ) → IfOk (of_jal word) IsOp
unfolding of_jal
jal_is word = reg_then (rd_of word) _ (λ rd p. (p, (j_is_even word).0, (j_is_even word).1))

jalr_is : (word : ℕ) → IfOk (of_jalr word) IsOp
unfolding of_jalr
jalr_is word = either_is (funct3 word == 0) _ _ (reg_then (rd_of word) _ (λ rd p. reg_then (rs1_of word) _ (λ rs1 q. (p, q, i_is_signed word)))) tt

branch_is : (word : ℕ) → IfOk (of_branch word) IsOp
unfolding of_branch
branch_is word = row_then (cond_of word) _ (λ cond. reg_then (rs1_of word) _ (λ rs1 p. reg_then (rs2_of word) _ (λ rs2 q. (p, q, (b_is_even word).0, (b_is_even word).1))))

load_into_is : (width : LoadWidth) (rd rs1 : Reg) (imm : ℤ) → IsReg rd → IsReg rs1 → IsSigned 12 imm → IfOk (load_into width rd rs1 imm) IsOp
load_into_is width Zero rs1 imm p q r = tt
load_into_is width (R n) rs1 imm p q r = (p, q, r)

load_is : (word : ℕ) → IfOk (of_load word) IsOp
unfolding of_load
load_is word = row_then (load_width_of word) _ (λ width. reg_then (rd_of word) _ (λ rd p. reg_then (rs1_of word) _ (λ rs1 q. load_into_is width rd rs1 (i_immediate word) p q (i_is_signed word))))

store_is : (word : ℕ) → IfOk (of_store word) IsOp
unfolding of_store
store_is word = row_then (store_width_of word) _ (λ width. reg_then (rs1_of word) _ (λ rs1 p. reg_then (rs2_of word) _ (λ rs2 q. (p, q, s_is_signed word))))

with_immediate_is : (row : Result AluImm WordFault) (word : ℕ) → IfOk (with_immediate row word) IsOp
with_immediate_is row word = row_then row _ (λ op. reg_then (rd_of word) _ (λ rd p. reg_then (rs1_of word) _ (λ rs1 q. (p, q, immediate_is op word))))

op_imm_is : (word : ℕ) → IfOk (of_op_imm word) IsOp
unfolding of_op_imm
op_imm_is word = with_immediate_is (alu_imm_of word) word

op_imm_32_is : (word : ℕ) → IfOk (of_op_imm_32 word) IsOp
unfolding of_op_imm_32
op_imm_32_is word = with_immediate_is (alu_imm_32_of word) word

with_registers_is : (row : Result Alu WordFault) (word : ℕ) → IfOk (with_registers row word) IsOp
with_registers_is row word = row_then row _ (λ op. reg_then (rd_of word) _ (λ rd p. reg_then (rs1_of word) _ (λ rs1 q. reg_then (rs2_of word) _ (λ rs2 r. (p, q, r)))))

op_is : (word : ℕ) → IfOk (of_op word) IsOp
unfolding of_op
op_is word = with_registers_is (alu_of word) word

op_32_is : (word : ℕ) → IfOk (of_op_32 word) IsOp
unfolding of_op_32
op_32_is word = with_registers_is (alu_32_of word) word

misc_mem_is : (word : ℕ) → IfOk (of_misc_mem word) IsOp
unfolding of_misc_mem
misc_mem_is word = either_is (funct3 word == 0) _ _ tt tt

system_is : (word : ℕ) → IfOk (of_system word) IsOp
unfolding of_system
system_is word = either_is (word == 0x00100073) _ _ tt (either_is (word == 0xc0001073) _ _ tt (either_is (word == 0x00000073) _ _ tt tt))

pub operation_is_op : (word : ℕ) → IfOk (operation word) IsOp
unfolding operation
operation_is_op word =
    either_is (opcode word == 0x37) _ _ (lui_is word) (
    either_is (opcode word == 0x17) _ _ (auipc_is word) (
    either_is (opcode word == 0x6f) _ _ (jal_is word) (
    either_is (opcode word == 0x67) _ _ (jalr_is word) (
    either_is (opcode word == 0x63) _ _ (branch_is word) (
    either_is (opcode word == 0x03) _ _ (load_is word) (
    either_is (opcode word == 0x23) _ _ (store_is word) (
    either_is (opcode word == 0x13) _ _ (op_imm_is word) (
    either_is (opcode word == 0x1b) _ _ (op_imm_32_is word) (
    either_is (opcode word == 0x33) _ _ (op_is word) (
    either_is (opcode word == 0x3b) _ _ (op_32_is word) (
    either_is (opcode word == 0x0f) _ _ (misc_mem_is word) (
    either_is (opcode word == 0x73) _ _ (system_is word) tt))))))))))))
