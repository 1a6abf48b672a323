use Rattle.std.proofs.Common.{◌∙◌, ◌++◌, ◌∷◌, [], ap, refl, sym, false, get_or, length, arith}
use Rattle.std.specs.Prelude.{slice_get, not}
use Rattle.std.proofs.lemmas.List.{length-map}
use Rattle.std.proofs.lemmas.Option.{slice_get-get_or}
use Rattle.relocs.specs.Pairs.{all_places}
use Rattle.lift_blocks.specs.declared.site.Site.TheVariants.{Code}
use Rattle.lift_blocks.specs.Kept.{site_of}
use Rattle.lift_blocks.proofs.Finding.{mapped_at}
use Rattle.lift_blocks.specs.Listed.{is_end}
use Rattle.lift_blocks.proofs.ListedOps.{emitted_more, or_swap}
use Rattle.lift_blocks.proofs.listing.kept_marks.Goals as goal

pub is_kept-requires : goal.is_kept-requires
is_kept-requires g c = (c.requires.0, c.requires.1.0.known.each c.loop-at.at _ (mapped_at c.args.places.now c.loop-at.at (Code 0 0 0) (omega arith)))

pub loop-at-preserved : goal.loop-at-preserved
loop-at-preserved g c =
    let all = c.requires.1.0 in
    let reached = c.requires.1.1 in
    let here = mapped_at c.args.places.now c.loop-at.at (Code 0 0 0) (omega arith) in
    let counts = ap length reached ∙ length-map (all_places g.given) _ ∙ sym (ap length all.are) ∙ length-map c.args.places.now site_of in
    emitted_more g.given (all_places g.given) c.args.reached.now c.loop-at.emitted.items c.push.new.self.items c.loop-at.at _ (is_end g.given (site_of (get_or c.args.places.now c.loop-at.at (Code 0 0 0)))) _
    (sym (ap (λ l. slice_get l c.loop-at.at) all.are) ∙ here) reached (slice_get-get_or c.args.reached.now c.loop-at.at false (omega (arith, counts)))
    refl c.loop-at.invariant (c.in_ok-push.ensures.items ∙ ap (λ b. c.loop-at.emitted.items ++ b ∷ []) (c.is_kept.ensures ∙ or_swap (get_or c.args.reached.now c.loop-at.at false) (not (is_end g.given (site_of (get_or c.args.places.now c.loop-at.at (Code 0 0 0)))))))
