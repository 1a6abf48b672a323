use Rattle.std.proofs.Common.{arith}
use Rattle.std.proofs.lemmas.Grind.{common_steps}
use Rattle.numbers.proofs.BytesLaws.{take_le_bytes}
use Rattle.pvm_ops.proofs.encode.append_low_bytes.Goals as goal

pub returns-clause-ok : goal.returns-clause-ok
returns-clause-ok c = let e = take_le_bytes c.args.len c.args.x (omega arith) in grind (arith, common_steps, e)
