use Rattle.std.proofs.Common.{◌≤◌, ◌^◌, length, sym, subst}
use Rattle.generated.proofs.Lengths.{generated_fits}
use Rattle.generated.proofs.object.generated.Goals as goal

pub returns-clause-len : goal.returns-clause-len
returns-clause-len c = subst (λ bytes. length bytes ≤ 2 ^ 24) (sym c.in_ok-bytes.ensures) (generated_fits c.args.seed c.args.count c.requires)
