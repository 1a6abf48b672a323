use Rattle.std.proofs.Common.{arith}
use Rattle.symbols.specs.Wanted.{given_of}
use Rattle.lift_blocks.proofs.Sizes.{all_small}
use Rattle.lift_blocks.proofs.surveying.counts_are_small.Goals as goal

pub returns : goal.returns
returns g c =
    all_small (given_of c.args.objects.now g.wanted) (omega arith)
    (λ o l. c.loop-object.invariant o (omega (arith, l)))
    c.requires.no_fault
