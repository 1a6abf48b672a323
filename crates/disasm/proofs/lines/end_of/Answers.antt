use Rattle.std.proofs.Common.{arith}
use Rattle.disasm.proofs.Texts.{end_of-is}
use Rattle.disasm.proofs.lines.end_of.Goals as goal

pub returns-else-not-marked-clause-value : goal.returns-else-not-marked-clause-value
returns-else-not-marked-clause-value c =
    let range = c.loop-end.invariant.range in
    end_of-is c.args.code.now c.args.at c.loop-end.end range.0 range.1 c.loop-end.invariant.none (λ less. cc)

pub returns-after-loop-end-clause-value : goal.returns-after-loop-end-clause-value
returns-after-loop-end-clause-value c =
    let range = c.loop-end.invariant.range in
    end_of-is c.args.code.now c.args.at c.loop-end.end range.0 range.1 c.loop-end.invariant.none (λ less. absurd (omega (arith, less, c.loop-end-test.false)))
