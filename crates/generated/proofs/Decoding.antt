-- The words of a generated text, decoded.
use Rattle.std.proofs.Common.{◌≡◌, ℕ, zero, suc, ◌<◌, ◌%◌, refl, arith}
use Rattle.std.specs.Prelude.{◌*◌, pos, Ok}
use Rattle.std.proofs.lemmas.Bool.{lt-ltb}
use Rattle.numbers.specs.Words.{field}
use Rattle.rv_decode.specs.Operations.{operation, of_op, of_op_imm, of_op_imm_32, of_jalr, alu_of, base_of, alternate_of, multiply_of, alu_imm_of, alu_imm_32_of, register_of, immediate_of, i_immediate}
use Rattle.rv_decode.specs.declared.ops.Alu.{Alu}
use Rattle.rv_decode.specs.declared.ops.Alu.TheVariants.{Add, Sub, Xor, Mul, Sltu, Divu}
use Rattle.rv_decode.specs.declared.ops.AluImm.TheVariants.{Addi, Srliw}
use Rattle.rv_decode.specs.declared.ops.Reg.TheVariants.{Zero, R}
use Rattle.rv_decode.specs.declared.ops.RvOp.TheVariants.{Jalr, Op, OpImm}
use Rattle.generated.specs.Laws.{argument, operation_of, WordsAreOperations}
use Rattle.generated.specs.Words.{r_type, i_type, register, instruction, return_word}

-- the decoder reads the registers a2 to a5
register-read : (n : ℕ) → n < 4 → register_of (register n) ≡ Ok (argument n)
unfolding register_of
register-read zero h = refl
register-read (suc zero) h = refl
register-read (suc (suc zero)) h = refl
register-read (suc (suc (suc zero))) h = refl
register-read (suc (suc (suc (suc n)))) h = absurd (omega (arith, h))

-- the fields of a word of two registers
module _ (f7 f3 rd rs1 rs2 : ℕ) (f3_fits : f3 < 8) (rd_fits : rd < 32) (rs1_fits : rs1 < 32) (rs2_fits : rs2 < 32) where
  r-opcode : field 0 7 (r_type f7 f3 rd rs1 rs2) ≡ 51
  r-opcode = omega arith

  r-rd : field 7 5 (r_type f7 f3 rd rs1 rs2) ≡ rd
  r-rd = omega arith

  r-funct3 : field 12 3 (r_type f7 f3 rd rs1 rs2) ≡ f3
  r-funct3 = omega arith

  r-rs1 : field 15 5 (r_type f7 f3 rd rs1 rs2) ≡ rs1
  r-rs1 = omega arith

  r-rs2 : field 20 5 (r_type f7 f3 rd rs1 rs2) ≡ rs2
  r-rs2 = omega arith

  r-funct7 : f7 < 128 → field 25 7 (r_type f7 f3 rd rs1 rs2) ≡ f7
  r-funct7 fits = omega arith

-- the fields of a word of a register and an immediate
module _ (op f3 rd rs1 immediate : ℕ) (op_fits : op < 128) (f3_fits : f3 < 8) (rd_fits : rd < 32) (rs1_fits : rs1 < 32) where
  i-opcode : field 0 7 (i_type op f3 rd rs1 immediate) ≡ op
  i-opcode = omega arith

  i-rd : field 7 5 (i_type op f3 rd rs1 immediate) ≡ rd
  i-rd = omega arith

  i-funct3 : field 12 3 (i_type op f3 rd rs1 immediate) ≡ f3
  i-funct3 = omega arith

  i-rs1 : field 15 5 (i_type op f3 rd rs1 immediate) ≡ rs1
  i-rs1 = omega arith

  i-immediate : immediate < 4096 → field 20 12 (i_type op f3 rd rs1 immediate) ≡ immediate
  i-immediate fits = omega arith

  i-amount : immediate < 32 → field 20 5 (i_type op f3 rd rs1 immediate) ≡ immediate
  i-amount fits = omega arith

  i-above : immediate < 32 → field 25 7 (i_type op f3 rd rs1 immediate) ≡ 0
  i-above fits = omega arith

module _ (d s t : ℕ) (d_fits : d < 4) (s_fits : s < 4) (t_fits : t < 4) where
  -- an operation on two registers
  decoded-r : (op : Alu) (f7 f3 : ℕ) → f7 < 128 → f3 < 8
      → alu_of (r_type f7 f3 (register d) (register s) (register t)) ≡ Ok op
      → operation (r_type f7 f3 (register d) (register s) (register t)) ≡ Ok (Op op (argument d) (argument s) (argument t))
  unfolding operation of_op
  decoded-r op f7 f3 f7_fits f3_fits is =
      let rd : register d < 32 = omega arith in
      let rs1 : register s < 32 = omega arith in
      let rs2 : register t < 32 = omega arith in
      rw (
        r-opcode f7 f3 (register d) (register s) (register t) f3_fits rd rs1 rs2,
        is,
        r-rd f7 f3 (register d) (register s) (register t) f3_fits rd rs1 rs2,
        r-rs1 f7 f3 (register d) (register s) (register t) f3_fits rd rs1 rs2,
        r-rs2 f7 f3 (register d) (register s) (register t) f3_fits rd rs1 rs2,
        register-read d d_fits,
        register-read s s_fits,
        register-read t t_fits,
      ) refl

  row-funct7 : (f7 f3 : ℕ) → f7 < 128 → f3 < 8 → field 25 7 (r_type f7 f3 (register d) (register s) (register t)) ≡ f7
  row-funct7 f7 f3 f7_fits f3_fits = r-funct7 f7 f3 (register d) (register s) (register t) f3_fits (omega arith) (omega arith) (omega arith) f7_fits

  row-funct3 : (f7 f3 : ℕ) → f3 < 8 → field 12 3 (r_type f7 f3 (register d) (register s) (register t)) ≡ f3
  row-funct3 f7 f3 f3_fits = r-funct3 f7 f3 (register d) (register s) (register t) f3_fits (omega arith) (omega arith) (omega arith)

  -- the operations of the six kinds on two registers
  decoded-add : operation (r_type 0 0 (register d) (register s) (register t)) ≡ Ok (Op Add (argument d) (argument s) (argument t))
  unfolding alu_of base_of
  decoded-add = decoded-r Add 0 0 (omega arith) (omega arith) (rw (row-funct7 0 0 (omega arith) (omega arith), row-funct3 0 0 (omega arith)) refl)

  decoded-sub : operation (r_type 32 0 (register d) (register s) (register t)) ≡ Ok (Op Sub (argument d) (argument s) (argument t))
  unfolding alu_of alternate_of
  decoded-sub = decoded-r Sub 32 0 (omega arith) (omega arith) (rw (row-funct7 32 0 (omega arith) (omega arith), row-funct3 32 0 (omega arith)) refl)

  decoded-xor : operation (r_type 0 4 (register d) (register s) (register t)) ≡ Ok (Op Xor (argument d) (argument s) (argument t))
  unfolding alu_of base_of
  decoded-xor = decoded-r Xor 0 4 (omega arith) (omega arith) (rw (row-funct7 0 4 (omega arith) (omega arith), row-funct3 0 4 (omega arith)) refl)

  decoded-mul : operation (r_type 1 0 (register d) (register s) (register t)) ≡ Ok (Op Mul (argument d) (argument s) (argument t))
  unfolding alu_of multiply_of
  decoded-mul = decoded-r Mul 1 0 (omega arith) (omega arith) (rw (row-funct7 1 0 (omega arith) (omega arith), row-funct3 1 0 (omega arith)) refl)

  decoded-sltu : operation (r_type 0 3 (register d) (register s) (register t)) ≡ Ok (Op Sltu (argument d) (argument s) (argument t))
  unfolding alu_of base_of
  decoded-sltu = decoded-r Sltu 0 3 (omega arith) (omega arith) (rw (row-funct7 0 3 (omega arith) (omega arith), row-funct3 0 3 (omega arith)) refl)

  decoded-divu : operation (r_type 1 5 (register d) (register s) (register t)) ≡ Ok (Op Divu (argument d) (argument s) (argument t))
  unfolding alu_of multiply_of
  decoded-divu = decoded-r Divu 1 5 (omega arith) (omega arith) (rw (row-funct7 1 5 (omega arith) (omega arith), row-funct3 1 5 (omega arith)) refl)

  -- and those of the two kinds with an immediate
  decoded-addi : (immediate : ℕ) → immediate < 2048 → operation (i_type 19 0 (register d) (register s) immediate) ≡ Ok (OpImm Addi (argument d) (argument s) (pos immediate))
  unfolding operation of_op_imm alu_imm_of immediate_of i_immediate
  decoded-addi immediate fits =
      let rd : register d < 32 = omega arith in
      let rs1 : register s < 32 = omega arith in
      rw (
        i-opcode 19 0 (register d) (register s) immediate (omega arith) (omega arith) rd rs1,
        i-funct3 19 0 (register d) (register s) immediate (omega arith) (omega arith) rd rs1,
        i-rd 19 0 (register d) (register s) immediate (omega arith) (omega arith) rd rs1,
        i-rs1 19 0 (register d) (register s) immediate (omega arith) (omega arith) rd rs1,
        i-immediate 19 0 (register d) (register s) immediate (omega arith) (omega arith) rd rs1 (omega arith),
        register-read d d_fits,
        register-read s s_fits,
        lt-ltb (2 * immediate) 4096 (omega arith),
      ) refl

  decoded-srliw : (immediate : ℕ) → immediate < 32 → operation (i_type 27 5 (register d) (register s) immediate) ≡ Ok (OpImm Srliw (argument d) (argument s) (pos immediate))
  unfolding operation of_op_imm_32 alu_imm_32_of immediate_of
  decoded-srliw immediate fits =
      let rd : register d < 32 = omega arith in
      let rs1 : register s < 32 = omega arith in
      rw (
        i-opcode 27 5 (register d) (register s) immediate (omega arith) (omega arith) rd rs1,
        i-funct3 27 5 (register d) (register s) immediate (omega arith) (omega arith) rd rs1,
        i-above 27 5 (register d) (register s) immediate (omega arith) (omega arith) rd rs1 fits,
        i-rd 27 5 (register d) (register s) immediate (omega arith) (omega arith) rd rs1,
        i-rs1 27 5 (register d) (register s) immediate (omega arith) (omega arith) rd rs1,
        i-amount 27 5 (register d) (register s) immediate (omega arith) (omega arith) rd rs1 fits,
        register-read d d_fits,
        register-read s s_fits,
      ) refl

  -- the operation of each kind
  decoded : (kind immediate : ℕ) → kind < 8 → immediate < 2048
      → operation (instruction kind (register d) (register s) (register t) immediate) ≡ Ok (operation_of kind d s t immediate)
  unfolding instruction operation_of
  decoded zero immediate kind_fits fits = decoded-addi immediate fits
  decoded (suc zero) immediate kind_fits fits = decoded-add
  decoded (suc (suc zero)) immediate kind_fits fits = decoded-sub
  decoded (suc (suc (suc zero))) immediate kind_fits fits = decoded-xor
  decoded (suc (suc (suc (suc zero)))) immediate kind_fits fits = decoded-mul
  decoded (suc (suc (suc (suc (suc zero))))) immediate kind_fits fits = decoded-sltu
  decoded (suc (suc (suc (suc (suc (suc zero)))))) immediate kind_fits fits = decoded-srliw (immediate % 32) (omega arith)
  decoded (suc (suc (suc (suc (suc (suc (suc zero))))))) immediate kind_fits fits = decoded-divu
  decoded (suc (suc (suc (suc (suc (suc (suc (suc n)))))))) immediate kind_fits fits = absurd (omega (arith, kind_fits))

decoded-return : operation return_word ≡ Ok (Jalr Zero (R 0) (pos 0))
unfolding operation of_jalr register_of i_immediate
decoded-return = refl

pub words-are-operations : WordsAreOperations
words-are-operations = record {
  words = λ x. decoded (field 36 2 x) (field 38 2 x) (field 40 2 x) (omega arith) (omega arith) (omega arith) (field 33 3 x) (field 42 11 x) (omega arith) (omega arith);
  last = decoded-return;
}
