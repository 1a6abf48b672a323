use Rattle.std.proofs.Common.{refl, arith}
use Rattle.transcript.proofs.Reading.{parts_at, parts_whole}
use Rattle.transcript.proofs.parts.first_part.Goals as goal

pub returns-then-bytes-at-clause-parts : goal.returns-then-bytes-at-clause-parts
returns-then-bytes-at-clause-parts c =
    parts_at c.args.bytes.now c.args.separator c.loop-at.at c.loop-at-test.true c.if-bytes-at.true c.loop-at.invariant

pub returns-clause-parts : goal.returns-clause-parts
returns-clause-parts c =
    (refl, parts_whole c.args.bytes.now c.args.separator (λ k less. c.loop-at.invariant k (omega (arith, less, c.loop-at-test.false))))
