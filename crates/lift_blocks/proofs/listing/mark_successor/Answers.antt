use Rattle.std.proofs.Common.{◌<◌, ◌∙◌, ap, length, Some, arith}
use Rattle.std.specs.Option.{option_map}
use Rattle.std.proofs.lemmas.List.{length-map}
use Rattle.std.proofs.lemmas.Option.{slice_get-get_or}
use Rattle.relocs.specs.Pairs.{all_places}
use Rattle.relocs.specs.Places.{CodePlace}
use Rattle.lift_blocks.specs.Kept.{site_of, operation_of}
use Rattle.lift_blocks.specs.Listed.{can_go_on, successor_of, place}
use Rattle.lift_blocks.specs.Listing.{at_places}
use Rattle.lift_blocks.specs.Marks.{with_mark}
use Rattle.lift_blocks.specs.Operations.{Operation}
use Rattle.lift_blocks.proofs.ListedOps.{at_place, count_ops, operation_is}
use Rattle.lift_blocks.proofs.Named.{goes_renamed}
use Rattle.lift_blocks.proofs.Successor.{place_is_there}
use Rattle.lift_blocks.proofs.Uses.{fold_some}
use Rattle.lift_blocks.proofs.listing.mark_successor.Goals as goal

pub mark_next-requires : goal.mark_next-requires
mark_next-requires g c =
    let all = c.requires.0 in
    let are = c.requires.1.0 in
    let places = all_places g.given in
    let count = ap length all.are in
    let within : c.loop-at.at < length places = omega (arith, count, length-map c.args.places.now site_of) in
    let here = place_is_there places c.loop-at.at within in
    let lengths = count_ops g.given places places c.args.ops.now are in
    let op = slice_get-get_or c.args.ops.now c.loop-at.at _ (omega (arith, lengths, within)) in
    let there = operation_is g.given places (at_places places c.args.ops.now) are.are c.loop-at.at _ _ here (at_place places c.args.ops.now c.loop-at.at _ op) in
    (all, (c.loop-at.auto.marks ∙ c.requires.1.1, (within, ap (option_map (λ (op : Operation CodePlace). can_go_on op)) there ∙ ap Some (goes_renamed (place places) (operation_of _)))))

pub loop-at-preserved : goal.loop-at-preserved
loop-at-preserved g c =
    let all = c.requires.0 in
    let places = all_places g.given in
    let within : c.loop-at.at < length places = omega (arith, ap length all.are, length-map c.args.places.now site_of) in
    fold_some (with_mark places) c.args.marks.now (successor_of g.given) places c.loop-at.at _ c.loop-at.marks c.mark_next.new.marks (place_is_there places c.loop-at.at within) c.loop-at.invariant c.mark_next.ensures
