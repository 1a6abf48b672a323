-- What the words of a generated text are.
use Rattle.std.specs.Prelude.{◌≡◌, ℕ, ◌+◌, ◌%◌, ◌==◌, if◌then◌else◌, pos, Ok}
use Rattle.numbers.specs.Words.{field}
use Rattle.rv_decode.specs.Operations.{operation}
use Rattle.rv_decode.specs.declared.ops.Alu.TheVariants.{Add, Sub, Xor, Mul, Sltu, Divu}
use Rattle.rv_decode.specs.declared.ops.AluImm.TheVariants.{Addi, Srliw}
use Rattle.rv_decode.specs.declared.ops.Reg.{Reg}
use Rattle.rv_decode.specs.declared.ops.Reg.TheVariants.{Zero, R}
use Rattle.rv_decode.specs.declared.ops.RvOp.{RvOp}
use Rattle.rv_decode.specs.declared.ops.RvOp.TheVariants.{Jalr, Op, OpImm}
use Rattle.generated.specs.Words.{word_of, return_word}

-- one of the registers a2 to a5, which are 9 to 12 in the PVM
abbrev pub argument : ℕ → Reg
argument number = R (9 + number)

-- the operation of a kind from 0 to 7 on these registers, or with this immediate
unfoldable pub operation_of : ℕ → ℕ → ℕ → ℕ → ℕ → RvOp
operation_of kind d s t immediate =
    if kind == 0 then OpImm Addi (argument d) (argument s) (pos immediate)
    else (if kind == 1 then Op Add (argument d) (argument s) (argument t)
    else (if kind == 2 then Op Sub (argument d) (argument s) (argument t)
    else (if kind == 3 then Op Xor (argument d) (argument s) (argument t)
    else (if kind == 4 then Op Mul (argument d) (argument s) (argument t)
    else (if kind == 5 then Op Sltu (argument d) (argument s) (argument t)
    else (if kind == 6 then OpImm Srliw (argument d) (argument s) (pos (immediate % 32))
    else Op Divu (argument d) (argument s) (argument t)))))))

-- The decoder reads each word as the operation of its kind, and the last as a return.
pub record WordsAreOperations : Type 0 where
  pub words : (x : ℕ) → operation (word_of x) ≡ Ok (operation_of (field 33 3 x) (field 36 2 x) (field 38 2 x) (field 40 2 x) (field 42 11 x))
  pub last : operation return_word ≡ Ok (Jalr Zero (R 0) (pos 0))
