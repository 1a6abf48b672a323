use Rattle.std.proofs.Common.{◌++◌, ◌∙◌, ap, sym, subst, [], length, map, arith}
use Rattle.std.specs.List.{filter_map}
use Rattle.std.proofs.lemmas.List.{length-map}
use Rattle.relocs.specs.Pairs.{all_places}
use Rattle.relocs.specs.Places.{has}
use Rattle.lift_blocks.specs.Kept.{site_of}
use Rattle.lift_blocks.specs.Listed.{targeted_places, target_of}
use Rattle.lift_blocks.specs.Listing.{HaveTargetsIn, at_places}
use Rattle.lift_blocks.specs.Marks.{with_marks}
use Rattle.lift_blocks.proofs.ListedOps.{AreAt, targeted_are}
use Rattle.lift_blocks.proofs.Marking.{written, has_these}
use Rattle.lift_blocks.proofs.listing.targeted_marks.Goals as goal

pub mark_targeted-requires-clause-targets : goal.mark_targeted-requires-clause-targets
mark_targeted-requires-clause-targets g c = subst (λ n. HaveTargetsIn n c.args.ops.now) (sym (ap length c.requires.0.are) ∙ length-map c.args.places.now site_of) c.requires.1.0.targets

pub returns : goal.returns
returns g c =
    let all = c.requires.0 in
    let places = map site_of c.args.places.now in
    let entries = map site_of c.args.entries.now in
    let needed = map site_of c.args.needed.now in
    let ops = at_places places c.args.ops.now in
    let these = entries ++ filter_map target_of ops ++ needed in
    let are = subst (λ l. AreAt g.given (all_places g.given) (at_places l c.args.ops.now)) (sym all.are) c.requires.1.0.are in
    written c.mark_targeted.new.marks c.in_ok-marks.marks.items c.in_ok-marks.marks.len (omega (arith, ap length c.deref_mut.ensures.value)) (omega arith)
    ∙ c.mark_targeted.ensures ∙ ap (λ marks. with_marks places marks these) (c.deref_mut.ensures.value ∙ c.in_ok-marks.ensures) ∙ has_these places [] these
    ∙ ap (λ l. map (has l) places) (targeted_are g.given ops entries needed are c.requires.1.1.1 c.requires.1.1.0)
    ∙ ap (map (has (targeted_places g.given))) all.are
