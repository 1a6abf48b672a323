use Rattle.std.proofs.Common.{◌∙◌, ap, sym, [], length, map, get_or, pos, arith}
use Rattle.std.specs.List.{cons_option}
use Rattle.std.specs.Option.{option_map}
use Rattle.std.proofs.lemmas.Option.{slice_get-get_or, slice_get-map}
use Rattle.rv_decode.specs.declared.ops.Reg.TheVariants.{Zero}
use Rattle.rv_decode.specs.declared.ops.RvOp.TheVariants.{Lui}
use Rattle.lift_blocks.specs.declared.source_op.SourceOp.{SourceOp}
use Rattle.lift_blocks.specs.declared.source_op.SourceOp.TheVariants.{Plain}
use Rattle.lift_blocks.specs.Kept.{site_of, operation_of}
use Rattle.lift_blocks.specs.Listed.{place, target_of}
use Rattle.lift_blocks.specs.Listing.{at_places, HasTargetIn}
use Rattle.lift_blocks.specs.Marks.{with_mark, with_marks}
use Rattle.lift_blocks.proofs.ListedOps.{all_at, at_place}
use Rattle.lift_blocks.proofs.Marking.{some_within}
use Rattle.lift_blocks.proofs.Named.{target_renamed}
use Rattle.lift_blocks.proofs.Uses.{fold_some}
use Rattle.lift_blocks.proofs.listing.mark_targets.Goals as goal

abbrev none : SourceOp
none = Plain (Lui Zero (pos 0))

pub mark_number-requires-clause-within : goal.mark_number-requires-clause-within
mark_number-requires-clause-within c =
    let ops = c.args.ops.now in
    let op = get_or ops c.loop-at.at none in
    let here = slice_get-map operation_of ops c.loop-at.at ∙ ap (option_map operation_of) (slice_get-get_or ops c.loop-at.at none (omega arith)) in
    some_within (length c.args.places.now) c.target_of.result
    (λ t e. all_at (HasTargetIn (length c.args.places.now)) (map operation_of ops) c.loop-at.at (operation_of op) c.requires.targets here t (sym c.target_of.ensures ∙ e))

pub loop-at-preserved : goal.loop-at-preserved
loop-at-preserved c =
    let places = map site_of c.args.places.now in
    let op = get_or c.args.ops.now c.loop-at.at none in
    fold_some (with_mark places) c.args.marks.now target_of (at_places places c.args.ops.now) c.loop-at.at _ c.loop-at.marks c.mark_number.new.marks
    (at_place places c.args.ops.now c.loop-at.at op (slice_get-get_or c.args.ops.now c.loop-at.at none (omega arith)))
    c.loop-at.invariant
    (c.mark_number.ensures ∙ ap (λ o. with_marks places c.loop-at.marks (cons_option o [])) (ap (option_map (place places)) c.target_of.ensures ∙ sym (target_renamed (place places) (operation_of op))))
