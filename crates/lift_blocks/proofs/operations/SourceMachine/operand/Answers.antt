use Rattle.std.proofs.Common.{◌≡◌, Some, sym, ap, ◌∙◌}
use Rattle.std.specs.Prelude.{slice_get}
use Rattle.relocs.specs.Pairs.{relocations_at}
use Rattle.lift_blocks.proofs.Relocated.{unrefused}
use Rattle.lift_blocks.proofs.operations.SourceMachine.operand.Goals as goal

pub operand-requires : goal.operand-requires
operand-requires g c =
    let here = sym c.in-Some.ensures.value in
    let first : slice_get (relocations_at g.given c.args.object c.args.section c.args.offset) 0 ≡ Some c.in-Some.relocation.now = ap (λ l. slice_get l 0) (sym c.relocations.ensures.at) ∙ here in
    let at_its_place = c.relocations.ensures.each.each 0 c.in-Some.relocation.now here in
    (c.requires.0.sources_are, (c.requires.1.section, (at_its_place.0, (at_its_place.1, unrefused g.given c.args.object c.args.section c.args.offset c.in-Some.relocation.now c.requires.1 first))))
