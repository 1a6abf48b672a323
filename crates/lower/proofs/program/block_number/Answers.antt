use Rattle.std.proofs.Common.{◌∙◌, arith}
use Rattle.lower.proofs.Numbering.{block_of_none, block_of_at}
use Rattle.lower.proofs.program.block_number.Goals as goal
use Rattle.lower.proofs.program.block_number.Goals.{else-at-gt0-via-then-at-gt0+else-begins, else-at-gt0-via-else-at-gt0}

pub returns-then-begins-clause-value : goal.returns-then-begins-clause-value
returns-then-begins-clause-value c = omega (arith, block_of_at c.args.lifted.now.begins c.args.at _ (omega arith) c.if-begins.ensures)

pub returns-else-at-gt0-clause-value : goal.returns-else-at-gt0-clause-value
returns-else-at-gt0-clause-value c =
    elim c.else-at-gt0.branch [
      | else-at-gt0-via-then-at-gt0+else-begins w ↦ omega (arith, block_of_at c.args.lifted.now.begins c.args.at _ (omega arith) w.if-begins.ensures)
      | else-at-gt0-via-else-at-gt0 w ↦ c.requires.before ∙ block_of_none c.args.lifted.now.begins c.args.at (omega arith)
    ]
