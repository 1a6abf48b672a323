use Rattle.std.proofs.Common.{sym, ◌∙◌, true≢false}
use Rattle.polkatool_cmd.proofs.Arguments.{argument_of-digits, argument_of-other}
use Rattle.polkatool_cmd.proofs.argument.Argument.read.Goals as goal
use Rattle.polkatool_cmd.proofs.argument.Argument.read.Goals.{else-word-eq0-via-then-word-eq0+else-are_digits, else-word-eq0-via-else-word-eq0}

pub invariant_of-result : goal.invariant_of-result
invariant_of-result c = record { spelled = argument_of-digits c.args.word.now c.if-word-eq0.true (sym c.are_digits.ensures ∙ c.if-are_digits.true) }

pub returns-else-word-eq0 : goal.returns-else-word-eq0
returns-else-word-eq0 c =
    sym (argument_of-other c.args.word.now (λ even digits. elim c.else-word-eq0.branch [
      | else-word-eq0-via-then-word-eq0+else-are_digits w ↦ true≢false (sym digits ∙ (sym w.are_digits.ensures ∙ w.if-are_digits.false))
      | else-word-eq0-via-else-word-eq0 w ↦ absurd (w.if-word-eq0.false even)
    ]))
