use Rattle.std.proofs.Common.{arith}
use Rattle.lift_blocks.proofs.AllOperations.{number_next, numbers_small}
use Rattle.lift_blocks.proofs.lifting.numbers_are_small.Goals as goal

pub loop-import-preserved : goal.loop-import-preserved
loop-import-preserved c = number_next c.args.wanted.now.imports c.loop-import.import c.import_kind-kind.result c.loop-import.invariant c.import_kind-kind.ensures.kind c.import_kind-kind.ensures.number

pub returns : goal.returns
returns c = record { each = numbers_small c.args.wanted.now.imports c.loop-import.import c.loop-import.invariant (omega arith) }
