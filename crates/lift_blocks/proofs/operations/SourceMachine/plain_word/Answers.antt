use Rattle.std.proofs.Common.{sym, ◌∙◌}
use Rattle.lift_blocks.proofs.FirstFault.{none_is}
use Rattle.lift_blocks.proofs.PlainOps.{plain_value}
use Rattle.lift_blocks.proofs.operations.SourceMachine.plain_word.Goals as goal

pub returns-then-is_none-clause-value : goal.returns-then-is_none-clause-value
returns-then-is_none-clause-value g c =
    plain_value g.given c.args.object c.args.section c.args.offset c.op_at-op.result c.op_at-op.ensures (sym c.is_alone.ensures ∙ c.if-is_alone.true)
    (sym c.relocations.ensures.at ∙ none_is c.relocations.result.now (sym c.is_none.ensures ∙ c.if-is_none.true))
