use Rattle.std.proofs.Common.{arith}
use Rattle.std.proofs.lemmas.Grind.{common_steps}
use Rattle.numbers.proofs.BytesLaws.{take_le_bytes}
use Rattle.blob_codec.proofs.naturals_out.put_low_bytes.Goals as goal

pub returns : goal.returns
returns c = let e = take_le_bytes c.args.len c.args.x (omega arith) in grind (arith, common_steps, e)
