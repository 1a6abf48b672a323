use Rattle.std.proofs.Common.{sym, arith, ◌∙◌}
use Rattle.pvm_machine.proofs.Readable.{output_free, output_barred}
use Rattle.pvm_machine.proofs.cores.Core.output_range.Goals as goal

pub returns-then-is_some : goal.returns-then-is_some
returns-then-is_some c =
    rw (← c.self.view_is)
    (sym (output_barred c.self.inside.registers c.self.inside.memory c.refused.result (omega arith) (omega arith) c.refused.ensures (sym c.is_some.ensures ∙ c.if-is_some.true)))

pub returns : goal.returns
returns c =
    rw (← c.self.view_is)
    (sym (output_free c.self.inside.registers c.self.inside.memory c.refused.result (omega arith) (omega arith) c.refused.ensures (sym c.is_some.ensures ∙ c.if-is_some.false)))
