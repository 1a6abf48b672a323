use Rattle.std.proofs.Common.{List, map, take, ap, subst, arith}
use Rattle.std.proofs.lemmas.List.{map_more, take_all}
use Rattle.relocs.specs.Pairs.{all_places}
use Rattle.relocs.specs.Places.{CodePlace}
use Rattle.lift_blocks.specs.declared.site.Site.TheVariants.{Code}
use Rattle.lift_blocks.specs.Kept.{site_of}
use Rattle.lift_blocks.specs.Listing.{AreOperations}
use Rattle.lift_blocks.proofs.AllOperations.{has_in}
use Rattle.lift_blocks.proofs.Finding.{mapped_at}
use Rattle.lift_blocks.proofs.ListedOps.{operations_next}
use Rattle.lift_blocks.proofs.operations.SourceMachine.operations.Goals as goal

pub numbered-requires : goal.numbered-requires
numbered-requires g c =
    let there = has_in (map site_of c.args.places.now) (all_places g.given) c.loop-at.at _ c.requires.1.0 (mapped_at c.args.places.now c.loop-at.at (Code 0 0 0) (omega arith)) in
    (c.requires.0, (there, c.requires.1.1))

pub loop-at-preserved : goal.loop-at-preserved
loop-at-preserved g c =
    operations_next g.given (map site_of c.args.places.now) (map site_of (take c.loop-at.at c.args.places.now)) _ c.loop-at.ops.items c.push.new.self.items _ _ _ c.loop-at.invariant c.in_ok-numbered.ensures.value c.in_ok-numbered.ensures.numbered
    c.in_ok-push.ensures.items (map_more site_of c.args.places.now c.loop-at.at (Code 0 0 0) (omega arith))

pub returns : goal.returns
returns g c =
    let places = c.args.places.now in
    let are = c.requires.1.0 in
    let whole = ap (map site_of) (take_all c.loop-at.at places (omega arith)) in
    subst (λ (l : List CodePlace). AreOperations g.given l l c.loop-at.ops.items) are (subst (λ (l : List CodePlace). AreOperations g.given (map site_of places) l c.loop-at.ops.items) whole c.loop-at.invariant)
