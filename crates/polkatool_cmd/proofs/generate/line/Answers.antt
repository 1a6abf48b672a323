use Rattle.std.proofs.Common.{codes, slice_index}
use Rattle.transcript.specs.Lines.{number_field}
use Rattle.polkatool_cmd.specs.Lines.{generated_line, value_field}
use Rattle.polkatool_cmd.proofs.Generating.{parts-joined}
use Rattle.polkatool_cmd.proofs.generate.line.Goals as goal

pub returns : goal.returns
unfolding generated_line
returns c =
    let registers = c.args.registers.now in
    parts-joined
    (number_field (codes "gen seed=") c.args.command.now.seed) (number_field (codes " count=") c.args.command.now.count) (number_field (codes " code=") c.args.code)
    (number_field (codes " gas=") c.args.gas) (codes " end=halt") (value_field (codes " a2=") (slice_index registers 9)) (value_field (codes " a3=") (slice_index registers 10))
    (value_field (codes " a4=") (slice_index registers 11)) (value_field (codes " a5=") (slice_index registers 12)) (codes "\n")
    _ _ _ _ _ _ _ _ _ _ _
    c.new-line.ensures c.push_field.ensures.text (rw c.from.ensures at c.push_field-2.ensures.text) c.push_field-3.ensures.text c.push_field-4.ensures.text c.push_str.ensures.bytes
    c.push_value.ensures.text c.push_value-2.ensures.text c.push_value-3.ensures.text c.push_value-4.ensures.text c.push_str-2.ensures.bytes
