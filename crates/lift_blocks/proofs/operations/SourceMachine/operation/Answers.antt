use Rattle.std.proofs.Common.{sym, ap, ◌∙◌}
use Rattle.relocs.specs.Places.{Code}
use Rattle.relocs.specs.Pairs.{is_place}
use Rattle.lift_blocks.specs.Kept.{site_of}
use Rattle.lift_blocks.specs.Operations.{operation_in}
use Rattle.lift_blocks.specs.PlacedOps.{placed_operation_of}
use Rattle.lift_blocks.proofs.Faultless.{faultless}
use Rattle.lift_blocks.proofs.TargetPlaces.{leads}
use Rattle.lift_blocks.proofs.operations.SourceMachine.operation.Goals as goal

pub code_operation-requires : goal.code_operation-requires
code_operation-requires g c = (
  c.requires.0,
  faultless g.given c.in-Code.object c.in-Code.section c.in-Code.offset c.requires.0.no_fault (ap (λ p. is_place g.given (site_of p)) (sym c.in-Code.is) ∙ c.requires.1),
)

pub returns-in-Code-clause-target : goal.returns-in-Code-clause-target
unfolding operation_in
returns-in-Code-clause-target g c =
    let there = ap (λ p. is_place g.given (site_of p)) (sym c.in-Code.is) ∙ c.requires.1 in
    leads g.given (Code c.in-Code.object c.in-Code.section c.in-Code.offset) (placed_operation_of c.code_operation.result) c.requires.0.no_fault there c.code_operation.ensures.value
