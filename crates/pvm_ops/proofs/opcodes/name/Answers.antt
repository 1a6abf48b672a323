use Rattle.std.proofs.Common.{◌≡◌, arith, refl}
use Rattle.std.proofs.lemmas.Bool.Decides.{nat_tests}
use Rattle.pvm_ops.specs.Opcodes.{is_known, name_of}
use Rattle.pvm_ops.proofs.opcodes.name.Goals as goal

pub returns-in_default : goal.returns-in_default
unfolding is_known name_of
returns-in_default c = let e : c.args.op ≡ 230 = grind (arith, nat_tests) in rw e refl
