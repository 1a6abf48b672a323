use Rattle.std.proofs.Common.{arith}
use Rattle.std.proofs.lemmas.Grind.{common_steps}
use Rattle.blob_codec.specs.Reading.{container_of}
use Rattle.blob_codec.proofs.Containers.{container_takes}
use Rattle.blob_codec.proofs.container.Container.read.Goals as goal

pub returns-clause-spelled : goal.returns-clause-spelled
unfolding container_of
returns-clause-spelled c = container_takes c.args.bytes.now _ (λ at. omega (arith, c.type_inv.bytes at)) (grind (arith, common_steps))
