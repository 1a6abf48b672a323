use Rattle.polkatool_cmd.proofs.Arguments.{argument_of-nil, spelled-nil}
use Rattle.polkatool_cmd.proofs.argument.Argument.empty.Goals as goal

pub invariant_of-result : goal.invariant_of-result
invariant_of-result c = record { spelled = argument_of-nil }

pub returns : goal.returns
returns c = spelled-nil
