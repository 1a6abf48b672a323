use Rattle.std.proofs.Common.{◌<◌, ◌∙◌, [], sym, ap, subst, length, map, arith}
use Rattle.std.specs.Prelude.{IfSome}
use Rattle.std.specs.List.{cons_option}
use Rattle.std.specs.Option.{option_map}
use Rattle.std.proofs.lemmas.List.{length-map}
use Rattle.lift_blocks.specs.Kept.{site_of}
use Rattle.lift_blocks.specs.Listed.{place}
use Rattle.lift_blocks.specs.Marks.{with_marks}
use Rattle.lift_blocks.proofs.Marking.{marked_number}
use Rattle.lift_blocks.proofs.marks.mark_number.Goals as goal

pub returns-in-Some : goal.returns-in-Some
returns-in-Some c =
    let sites = c.args._places.now in
    let places = map site_of sites in
    let within : c.in-Some.number < length sites = subst (λ o. IfSome o (λ n. n < length sites)) c.in-Some.is c.requires.within in
    marked_number places c.args.marks.now c.in-Some.number c.requires.ascends (c.requires.count ∙ sym (length-map sites site_of)) (omega (arith, within, length-map sites site_of))
    ∙ ap (λ o. with_marks places c.args.marks.now (cons_option (option_map (place places) o) [])) (sym c.in-Some.is)
