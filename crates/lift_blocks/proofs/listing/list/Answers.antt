use Rattle.std.proofs.Common.{◌∙◌, sym, ap, subst, true, List, length, map, arith}
use Rattle.std.proofs.lemmas.List.{length-map}
use Rattle.relocs.specs.Pairs.{all_places}
use Rattle.relocs.specs.Places.{CodePlace}
use Rattle.lift_blocks.specs.declared.site.Site.{Site}
use Rattle.lift_blocks.specs.declared.source_op.SourceOp.{SourceOp}
use Rattle.lift_blocks.specs.Kept.{site_of, operation_of}
use Rattle.lift_blocks.specs.Known.{AreAll}
use Rattle.lift_blocks.specs.Listed.{is_emitted}
use Rattle.lift_blocks.specs.Listing.{AreNumbered, AreOperations, at_places, begins_from}
use Rattle.lift_blocks.specs.Marks.{chosen}
use Rattle.lift_blocks.proofs.Choosing.{chosen_at_most, chosen_map}
use Rattle.lift_blocks.proofs.ListedOps.{count_ops, marks_count, needed_chosen, are_listed, is_list, numbers_len}
use Rattle.lift_blocks.proofs.listing.list.Goals as goal

pub targeted_marks-requires : goal.targeted_marks-requires
targeted_marks-requires g c =
    let survey = c.args.survey in
    let places = survey.places.items in
    let all = all_places g.given in
    let needed_are =
    ap (map site_of)
    (c.deref-6.ensures.value ∙ c.in_ok-needed.ensures ∙ ap (chosen c.deref-2.result.now) c.deref.ensures.value ∙ ap (λ bs. chosen bs places) c.deref-2.ensures.value)
    ∙ needed_chosen g.given places survey.needed.items c.requires.1.0.are c.requires.1.1.1.0
    in (
      subst (λ (l : List Site). AreAll g.given (map site_of l)) (sym c.deref-3.ensures.value) c.requires.1.0,
      (
        subst (λ (l : List SourceOp). AreOperations g.given all all l) (sym c.deref-4.ensures.value) c.requires.1.1.0,
        (needed_are, ap (map site_of) c.deref-5.ensures.value ∙ c.requires.1.1.1.1.0),
      ),
    )

pub emitted_marks-requires : goal.emitted_marks-requires
emitted_marks-requires g c =
    let all = all_places g.given in (
      c.requires.0,
      (
        subst (λ (l : List Site). AreAll g.given (map site_of l)) (sym c.deref-7.ensures.value) c.requires.1.0,
        (subst (λ (l : List SourceOp). AreOperations g.given all all l) (sym c.deref-8.ensures.value) c.requires.1.1.0, c.deref-9.ensures.value ∙ c.in_ok-targeted.ensures),
      ),
    )

pub listed_operations-requires : goal.listed_operations-requires
listed_operations-requires g c =
    let all = all_places g.given in
    let survey = c.args.survey in
    let are = c.requires.1.1.0 in
    let count = ap length (c.deref-10.ensures.value ∙ c.in_ok-emitted.ensures) ∙ length-map all (is_emitted g.given) in (
      omega (arith, count, ap length c.requires.1.0.are, length-map survey.places.items site_of, c.requires.1.1.1.1.1.0),
      (count ∙ count_ops g.given all all survey.ops.items are, (count, (are.fit, are.targets))),
    )

pub begins-requires : goal.begins-requires
begins-requires g c =
    let all = all_places g.given in
    let emitted = c.deref-10.result.now in
    let targeted_is =
    c.deref-14.ensures.value ∙ c.marked-targeted.ensures ∙ ap (λ e. chosen e c.in_ok-targeted.targeted.items) (c.deref-12.ensures.value ∙ sym c.deref-10.ensures.value)
    ∙ ap (chosen emitted) c.in_ok-targeted.ensures
    in
    ap length targeted_is ∙ marks_count g.given (chosen emitted all) emitted (at_places all c.args.survey.ops.items) c.in_ok-ops.ops.items c.requires.1.1.0.are c.in_ok-ops.ensures ∙ sym (ap length c.deref-13.ensures.value)

pub numbers_of-requires : goal.numbers_of-requires
numbers_of-requires g c =
    are_listed c.args.survey.places.items c.deref-15.result.now c.deref-11.result.now c.requires.1.0.ascend c.requires.1.1.1.1.1.0 (c.deref-15.ensures.value ∙ c.marked-places.ensures)

pub numbers_of-requires-2 : goal.numbers_of-requires-2
numbers_of-requires-2 g c =
    are_listed c.args.survey.places.items c.deref-15.result.now c.deref-11.result.now c.requires.1.0.ascend c.requires.1.1.1.1.1.0 (c.deref-15.ensures.value ∙ c.marked-places.ensures)

pub lifted-requires : goal.lifted-requires
lifted-requires g c =
    let given = g.given in
    let all = all_places given in
    let survey = c.args.survey in
    let places = survey.places.items in
    let ops = at_places all survey.ops.items in
    let emitted = c.deref-10.result.now in
    let listed = c.deref-15.result.now in
    let found = c.in_ok-ops.ops.items in
    let entries = map site_of c.deref-16.result.now in
    let all_are = c.requires.1.0.are in
    let named = c.requires.1.1.1.0 in
    let few = c.requires.1.1.1.1.1.0 in
    let map_is = c.requires.1.1.1.1.1.1.1.0 in
    let targeted_is =
    c.deref-14.ensures.value ∙ c.marked-targeted.ensures ∙ ap (λ e. chosen e c.in_ok-targeted.targeted.items) (c.deref-12.ensures.value ∙ sym c.deref-10.ensures.value)
    ∙ ap (chosen emitted) c.in_ok-targeted.ensures
    in
    let listed_is = c.deref-15.ensures.value ∙ c.marked-places.ensures ∙ ap (λ e. chosen e places) (c.deref-11.ensures.value ∙ sym c.deref-10.ensures.value) in
    let needed_is = c.deref-17.ensures.value ∙ c.in_ok-needed.ensures ∙ ap (chosen c.deref-2.result.now) c.deref.ensures.value ∙ ap (λ bs. chosen bs places) c.deref-2.ensures.value in
    let same = ap (map site_of) listed_is ∙ sym (chosen_map site_of emitted places) ∙ ap (chosen emitted) all_are in (
      is_list given places listed c.deref-17.result.now ops emitted c.deref-14.result.now survey.needed.items entries _ all_are (c.deref-10.ensures.value ∙ c.in_ok-emitted.ensures) c.requires.1.1.0.are named targeted_is
          (ap (map site_of) c.deref-16.ensures.value ∙ c.requires.1.1.1.1.0) listed_is needed_is
          (sym (ap (map site_of) c.deref-15.ensures.value))
          (subst (λ (l : List CodePlace). AreNumbered l (chosen emitted ops) (map operation_of found)) (sym same) c.in_ok-ops.ensures)
          (c.in_ok-begins.ensures ∙ ap (λ o. begins_from true c.deref-14.result.now (map operation_of o)) c.deref-13.ensures.value)
          c.in_ok-entries.ensures c.in_ok-needed-2.ensures map_is c.requires.1.1.1.1.1.1.1.1,
      (
        omega (arith, ap length c.marked-places.ensures, chosen_at_most c.deref-11.result.now places, few),
        (
          omega (arith, ap length (map_is ∙ sym (needed_chosen given places survey.needed.items all_are named)), length-map (chosen survey.needed.items places) site_of, chosen_at_most survey.needed.items places, few),
          omega (arith, numbers_len (map site_of listed) entries c.in_ok-entries.entries.items c.in_ok-entries.ensures, length-map c.deref-16.result.now site_of, ap length c.deref-16.ensures.value, c.requires.1.1.1.1.1.1.0),
        ),
      ),
    )
