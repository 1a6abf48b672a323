use Rattle.polkatool_cmd.proofs.Generating.{container-is_read}
use Rattle.polkatool_cmd.proofs.generate.linked_container.Goals as goal

pub unreachable-requires : goal.unreachable-requires
unreachable-requires c = container-is_read c.args.bytes.now c.read.result c.in-Err.field-0 c.requires c.read.ensures.exact c.in-Err.is
