use Rattle.std.proofs.Common.{◌≡◌, Some, sym, subst, ◌∙◌, arith}
use Rattle.std.specs.Prelude.{IfSome}
use Rattle.rv_decode.specs.Operations.{IsOp}
use Rattle.relocs.specs.Places.{Code}
use Rattle.relocs.specs.Words.{raw_at}
use Rattle.lift_blocks.specs.PlacedOps.{CanTake}
use Rattle.lift_blocks.proofs.CodeRoom.{offset_small, raw_is_op}
use Rattle.lift_blocks.proofs.Taken.{operand_taken}
use Rattle.lift_blocks.proofs.operations.SourceMachine.word.Goals as goal

pub placed-requires : goal.placed-requires
placed-requires g c =
    let none = c.requires.0.sources_are.placed_is.no_fault in
    let free = c.requires.1.0 in
    let raw : raw_at g.given (Code c.args.object c.args.section c.args.offset) ≡ Some c.in-Some.op = sym c.requires.1.1.0 ∙ c.in-Some.is in (
      c.requires.0,
      (
        subst (λ x. IfSome x IsOp) raw (raw_is_op g.given c.args.object c.args.section c.args.offset),
        (
          subst (CanTake c.in-Some.op) (sym c.requires.1.1.1) (operand_taken g.given c.args.object c.args.section c.args.offset c.in-Some.op none free raw),
          omega (arith, offset_small g.given c.args.object c.args.section c.args.offset none free),
        ),
      ),
    )
