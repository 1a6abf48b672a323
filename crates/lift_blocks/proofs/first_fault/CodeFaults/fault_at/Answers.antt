use Rattle.std.proofs.Common.{◌≡◌, ◌%◌, arith, false}
use Rattle.std.specs.Prelude.{nat_eq}
use Rattle.lift_blocks.proofs.FirstFault.{no_fault}
use Rattle.lift_blocks.proofs.first_fault.CodeFaults.fault_at.Goals as goal

pub returns-then-offset-aligned : goal.returns-then-offset-aligned
returns-then-offset-aligned g c =
    let odd : nat_eq (c.args.offset % 4) 0 ≡ false = grind (arith, c.if-offset-ne0.true) in
    no_fault g.given c.args.object c.args.section c.args.offset c.args.aligned c.requires.1.0 c.requires.1.1 c.if-offset-aligned.true odd
