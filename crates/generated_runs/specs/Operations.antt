-- The operations of a generated text.
use Rattle.std.specs.Prelude.{ℕ, zero, suc, List, [], ◌∷◌, pos}
use Rattle.numbers.specs.Words.{field}
use Rattle.rv_decode.specs.declared.ops.Reg.TheVariants.{Zero, R}
use Rattle.rv_decode.specs.declared.ops.RvOp.{RvOp}
use Rattle.rv_decode.specs.declared.ops.RvOp.TheVariants.{Jalr}
use Rattle.generated.specs.Words.{next}
use Rattle.generated.specs.Laws.{operation_of}

-- the operation that a number of the generator chooses
abbrev pub operation_by : ℕ → RvOp
operation_by x = operation_of (field 33 3 x) (field 36 2 x) (field 38 2 x) (field 40 2 x) (field 42 11 x)

-- the operations of a text: the given number of random ones, and the return
unfoldable pub operations : ℕ → ℕ → List RvOp
operations seed zero = Jalr Zero (R 0) (pos 0) ∷ []
operations seed (suc count) = operation_by (next seed) ∷ operations (next seed) count
