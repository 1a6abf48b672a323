use Rattle.std.proofs.Common.{◌∙◌, ap, [], length, map, arith}
use Rattle.symbols.specs.Wanted.{given_of}
use Rattle.relocs.specs.AddressMap.{named_places}
use Rattle.lift_blocks.specs.Kept.{site_of}
use Rattle.lift_blocks.specs.Marks.{with_marks}
use Rattle.lift_blocks.proofs.Marking.{written, has_these}
use Rattle.lift_blocks.proofs.needed.named_marks.Goals as goal

pub returns : goal.returns
returns g c =
    let places = map site_of c.args.places.now in
    let named = named_places (given_of c.args.objects.now g.wanted) in
    written c.mark_named.new.marks c.in_ok-marks.marks.items c.in_ok-marks.marks.len (omega (arith, ap length c.deref_mut.ensures.value)) (omega arith)
    ∙ c.mark_named.ensures ∙ ap (λ marks. with_marks places marks named) (c.deref_mut.ensures.value ∙ c.in_ok-marks.ensures) ∙ has_these places [] named
