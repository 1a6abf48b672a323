use Rattle.std.proofs.Common.{◌+◌, sym, subst, arith}
use Rattle.std.specs.Prelude.{IfSome}
use Rattle.rv_decode.specs.Operations.{IsOp}
use Rattle.lift_blocks.proofs.CodeRoom.{offset_small, raw_is_op}
use Rattle.lift_blocks.proofs.operations.SourceMachine.pair.Goals as goal

pub overflow_add-offset : goal.overflow_add-offset
overflow_add-offset g c = omega (arith, offset_small g.given c.args.object c.args.section c.args.offset c.requires.0.sources_are.placed_is.no_fault c.requires.1.0)

pub pair_registers-temp-requires-clause-first : goal.pair_registers-temp-requires-clause-first
pair_registers-temp-requires-clause-first g c = subst (λ x. IfSome x IsOp) (sym c.op_at.ensures) (raw_is_op g.given c.args.object c.args.section c.args.offset)

pub pair_registers-temp-requires-clause-second : goal.pair_registers-temp-requires-clause-second
pair_registers-temp-requires-clause-second g c = subst (λ x. IfSome x IsOp) (sym c.op_at-2.ensures) (raw_is_op g.given c.args.object c.args.section (c.args.offset + 4))

pub overflow_add-offset-2 : goal.overflow_add-offset-2
overflow_add-offset-2 g c = omega (arith, offset_small g.given c.args.object c.args.section c.args.offset c.requires.0.sources_are.placed_is.no_fault c.requires.1.0)
