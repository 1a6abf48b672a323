use Rattle.std.proofs.Common.{arith}
use Rattle.std.proofs.lemmas.Grind.{common_steps}
use Rattle.blob_codec.specs.Reading.{program_of}
use Rattle.blob_codec.proofs.Programs.{program_takes}
use Rattle.blob_codec.proofs.program.Program.read.Goals as goal

pub returns-clause-spelled : goal.returns-clause-spelled
unfolding program_of
returns-clause-spelled c = program_takes c.args.bytes.now _ (λ at. omega (arith, c.type_inv.bytes at)) (grind (arith, common_steps))
