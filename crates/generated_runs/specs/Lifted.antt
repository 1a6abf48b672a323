-- The operations of a generated object in code order.
use Rattle.std.specs.Prelude.{ℕ, suc, [], ◌∷◌, map, true, false, replicate}
use Rattle.rv_decode.specs.declared.ops.RvOp.{RvOp}
use Rattle.rv_decode.specs.declared.ops.RvOp.TheVariants.{Jalr as JalrWord}
use Rattle.relocs.specs.Places.{offsets_from}
use Rattle.lift_blocks.specs.Operations.{Operation, Plain, Jalr}
use Rattle.lift_blocks.specs.Listed.{Lifted}
use Rattle.generated_runs.specs.Operations.{operations}

-- an operation of a generated text as the link lists it: the return keeps no place
abbrev pub lifted_of : RvOp → Operation ℕ
lifted_of (JalrWord rd rs1 imm) = Jalr rd rs1 imm 0
lifted_of op = Plain op

-- The list: an operation for each word, one block that begins with the entry, and no address map.
abbrev pub lifted : ℕ → ℕ → Lifted
lifted seed count = record {
  places = offsets_from 0 1 0 (suc count);
  ops = map lifted_of (operations seed count);
  begins = true ∷ replicate count false;
  entries = 0 ∷ [];
  needed = [];
  map = [];
  imports = 0;
}
