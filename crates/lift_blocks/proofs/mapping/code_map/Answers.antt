use Rattle.std.proofs.Common.{◌≡◌, ◌+◌, ◌∙◌, false, sym, ap, subst, get_or, length, map, arith}
use Rattle.std.proofs.lemmas.List.{length-map}
use Rattle.relocs.specs.AddressMap.{named_places}
use Rattle.relocs.specs.Places.{has}
use Rattle.lift_blocks.specs.declared.site.Site.TheVariants.{Code}
use Rattle.lift_blocks.specs.Kept.{site_of}
use Rattle.lift_blocks.specs.Marks.{chosen}
use Rattle.lift_blocks.proofs.Choosing.{listed_more, listed_all, one_more}
use Rattle.lift_blocks.proofs.Finding.{mapped_at}
use Rattle.lift_blocks.proofs.MapOrder.{EndsBefore, marked_mappable, is_after, ends_before_more, needed_chosen}
use Rattle.lift_blocks.proofs.mapping.code_map.Goals as goal

pub push_named-requires-clause-mappable : goal.push_named-requires-clause-mappable
push_named-requires-clause-mappable g c = λ e.
    marked_mappable g.given (map site_of c.args.places.now) c.args.named.now c.loop-at.at _ c.requires.0 c.requires.1.1 (mapped_at c.args.places.now c.loop-at.at (Code 0 0 0) (omega arith)) e

pub push_named-requires-clause-after : goal.push_named-requires-clause-after
push_named-requires-clause-after g c = λ e.
    let here = mapped_at c.args.places.now c.loop-at.at (Code 0 0 0) (omega arith) in
    is_after g.given (map site_of c.args.places.now) c.loop-at.map c.loop-at.at _ here (marked_mappable g.given (map site_of c.args.places.now) c.args.named.now c.loop-at.at _ c.requires.0 c.requires.1.1 here e) c.loop-at.invariant.before

pub loop-at-preserved : goal.loop-at-preserved
loop-at-preserved g c =
    let places = map site_of c.args.places.now in
    let here = mapped_at c.args.places.now c.loop-at.at (Code 0 0 0) (omega arith) in
    let count : length c.args.named.now ≡ length places = ap length c.requires.1.1 ∙ length-map places (has (named_places g.given)) in
    record {
      places = listed_more c.args.named.now places c.loop-at.at _ c.loop-at.map c.push_named.new.map (chosen c.args.named.now places) c.loop-at.invariant.places c.in_ok-push_named.ensures here count;
      few = one_more c.loop-at.map c.push_named.new.map _ _ c.loop-at.at c.in_ok-push_named.ensures c.loop-at.invariant.few;
      before =
          subst (λ l. EndsBefore g.given places l (c.loop-at.at + 1)) (sym c.in_ok-push_named.ensures)
          (ends_before_more g.given places c.loop-at.map c.loop-at.at _ (get_or c.args.named.now c.loop-at.at false) c.requires.0 here
          (marked_mappable g.given places c.args.named.now c.loop-at.at _ c.requires.0 c.requires.1.1 here) c.loop-at.invariant.before);
    }

pub returns : goal.returns
returns g c =
    let places = map site_of c.args.places.now in
    listed_all c.args.named.now places c.loop-at.at c.loop-at.map (chosen c.args.named.now places) c.loop-at.invariant.places (omega (arith, ap length c.requires.1.1, length-map places (has (named_places g.given)), length-map c.args.places.now site_of))
    ∙ ap (λ l. chosen l places) c.requires.1.1 ∙ needed_chosen g.given places c.requires.0.are
