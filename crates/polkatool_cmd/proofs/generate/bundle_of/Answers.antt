use Rattle.std.proofs.Common.{length, ap, arith}
use Rattle.polkatool_cmd.proofs.Generating.{total-none}
use Rattle.polkatool_cmd.proofs.generate.bundle_of.Goals as goal

pub add-requires-clause-all : goal.add-requires-clause-all
add-requires-clause-all c = omega (arith, total-none _ c.new-bundle.ensures, ap length c.as_slice.ensures, c.in_ok-object.ensures.len)
