-- The forms of generated operations: on registers from a2 to a5, with an immediate or without.
use Rattle.std.proofs.Common.{◌≡◌, ◌<◌, ◌%◌, ℕ, zero, suc, Some, subst, arith}
use Rattle.std.specs.Prelude.{pos, slice_get}
use Rattle.numbers.specs.Words.{field}
use Rattle.rv_decode.specs.declared.ops.Alu.{Alu}
use Rattle.rv_decode.specs.declared.ops.Alu.TheVariants.{Add, Sub, Xor, Mul, Sltu, Divu}
use Rattle.rv_decode.specs.declared.ops.AluImm.TheVariants.{Addi, Srliw}
use Rattle.rv_decode.specs.declared.ops.Reg.TheVariants.{Zero, R}
use Rattle.rv_decode.specs.declared.ops.RvOp.{RvOp}
use Rattle.rv_decode.specs.declared.ops.RvOp.TheVariants.{Jalr, Op, OpImm}
use Rattle.generated.specs.Words.{next}
use Rattle.generated.specs.Laws.{argument, operation_of}
use Rattle.generated_runs.specs.Operations.{operation_by, operations}

-- what holds of each form
pub record HoldsOfForms (P : RvOp → Type 0) : Type 0 where
  pub of_addi : (d s immediate : ℕ) → d < 4 → s < 4 → immediate < 2048 → P (OpImm Addi (argument d) (argument s) (pos immediate))
  pub of_srliw : (d s immediate : ℕ) → d < 4 → s < 4 → immediate < 32 → P (OpImm Srliw (argument d) (argument s) (pos immediate))
  pub of_registers : (op : Alu) (d s t : ℕ) → d < 4 → s < 4 → t < 4 → P (Op op (argument d) (argument s) (argument t))

-- it holds of the operation of each kind
module _ (P : RvOp → Type 0) (holds : HoldsOfForms P) where
  by-kind : (kind d s t immediate : ℕ) → kind < 8 → d < 4 → s < 4 → t < 4 → immediate < 2048 → P (operation_of kind d s t immediate)
  unfolding operation_of
  by-kind zero d s t immediate k d_fits s_fits t_fits fits = holds.of_addi d s immediate d_fits s_fits fits
  by-kind (suc zero) d s t immediate k d_fits s_fits t_fits fits = holds.of_registers Add d s t d_fits s_fits t_fits
  by-kind (suc (suc zero)) d s t immediate k d_fits s_fits t_fits fits = holds.of_registers Sub d s t d_fits s_fits t_fits
  by-kind (suc (suc (suc zero))) d s t immediate k d_fits s_fits t_fits fits = holds.of_registers Xor d s t d_fits s_fits t_fits
  by-kind (suc (suc (suc (suc zero)))) d s t immediate k d_fits s_fits t_fits fits = holds.of_registers Mul d s t d_fits s_fits t_fits
  by-kind (suc (suc (suc (suc (suc zero))))) d s t immediate k d_fits s_fits t_fits fits = holds.of_registers Sltu d s t d_fits s_fits t_fits
  by-kind (suc (suc (suc (suc (suc (suc zero)))))) d s t immediate k d_fits s_fits t_fits fits = holds.of_srliw d s (immediate % 32) d_fits s_fits (omega arith)
  by-kind (suc (suc (suc (suc (suc (suc (suc zero))))))) d s t immediate k d_fits s_fits t_fits fits = holds.of_registers Divu d s t d_fits s_fits t_fits
  by-kind (suc (suc (suc (suc (suc (suc (suc (suc n)))))))) d s t immediate k d_fits s_fits t_fits fits = absurd (omega (arith, k))

  -- and of the one that a number chooses
  pub by-number : (x : ℕ) → P (operation_by x)
  by-number x =
      by-kind (field 33 3 x) (field 36 2 x) (field 38 2 x) (field 40 2 x) (field 42 11 x) (omega arith) (omega arith) (omega arith) (omega arith) (omega arith)

  -- what holds of the return too holds of each operation of a text
  pub each-operation : P (Jalr Zero (R 0) (pos 0)) → (seed count at : ℕ) (op : RvOp) → slice_get (operations seed count) at ≡ Some op → P op
  unfolding operations
  each-operation return seed zero zero op is = (let same : Jalr Zero (R 0) (pos 0) ≡ op = cc in subst P same return)
  each-operation return seed zero (suc at) op is = absurd cc
  each-operation return seed (suc count) zero op is = (let same : operation_by (next seed) ≡ op = cc in subst P same (by-number (next seed)))
  each-operation return seed (suc count) (suc at) op is = each-operation return (next seed) count at op is

  -- and what holds of the forms alone holds of each but the last
  pub each-random : (seed count at : ℕ) (op : RvOp) → at < count → slice_get (operations seed count) at ≡ Some op → P op
  unfolding operations
  each-random seed zero at op lt is = absurd (omega (arith, lt))
  each-random seed (suc count) zero op lt is = (let same : operation_by (next seed) ≡ op = cc in subst P same (by-number (next seed)))
  each-random seed (suc count) (suc at) op lt is = each-random (next seed) count at op (omega (arith, lt)) is
