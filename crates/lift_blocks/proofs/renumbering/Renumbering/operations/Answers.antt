use Rattle.std.proofs.Common.{◌≡◌, ◌<◌, ◌+◌, ◌++◌, ◌∷◌, [], ◌∙◌, ap, sym, subst, false, Some, List, length, map, take, drop, get_or, arith}
use Rattle.std.specs.Prelude.{slice_get}
use Rattle.std.specs.Option.{option_map}
use Rattle.std.proofs.Math.ListN.{set, length-set}
use Rattle.std.proofs.lemmas.Option.{slice_get-get_or, slice_get-map}
use Rattle.lift_blocks.specs.declared.source_op.SourceOp.{SourceOp}
use Rattle.lift_blocks.specs.declared.source_op.SourceOp.TheVariants.{Sbrk}
use Rattle.lift_blocks.specs.Fits.{FitsInstructions}
use Rattle.lift_blocks.specs.Kept.{operation_of}
use Rattle.lift_blocks.specs.Listing.{AreNumbered, HasTargetIn, at_places, has_target}
use Rattle.lift_blocks.specs.Marks.{chosen}
use Rattle.lift_blocks.proofs.ListedOps.{all_at, at_place, numbered_next, numbered_skip, take_next}
use Rattle.lift_blocks.proofs.Relisted.{at_rest, front_written, rest_written, rest_more, untargeted}
use Rattle.lift_blocks.proofs.renumbering.Renumbering.operations.Goals as goal
use Rattle.lift_blocks.proofs.renumbering.Renumbering.operations.Goals.{then-self-at, then-to-at+in_ok-ops, else-to-at+else-has_target, else-self-at}

pub operation-requires : goal.operation-requires
operation-requires g c =
    let at = c.loop-at.at in
    let first = c.args.ops.items in
    let now = c.loop-at.ops.items in
    let x = c.index-op.result.now in
    let here = slice_get-get_or now at x (omega (arith, c.loop-at.invariant.count, c.loop-at-test.true)) ∙ ap Some (sym c.index-op.ensures) in
    let kept = slice_get-map operation_of first at ∙ ap (option_map operation_of) (at_rest first now at x c.loop-at.invariant.rest here) in (
      c.requires.0,
      (
        c.requires.1.1.0,
        (
          all_at FitsInstructions (map operation_of first) at (operation_of x) c.requires.1.1.1.0 kept,
          all_at (HasTargetIn (length g.places)) (map operation_of first) at (operation_of x) c.requires.1.1.1.1 kept,
        ),
      ),
    )

pub loop-at-preserved : goal.loop-at-preserved
loop-at-preserved g c =
    let at = c.loop-at.at in
    let to = c.loop-at.to in
    let was = c.loop-at.invariant in
    let listed = c.args.self.now.listed.now in
    let places = chosen listed g.places in
    let first = c.args.ops.items in
    let ops = at_places g.places first in
    let now = c.loop-at.ops.items in
    let new = c.if-self-at.ops.items in
    let within : at < length now = omega (arith, was.count, c.loop-at-test.true) in
    let mark = slice_get-get_or listed at false c.loop-at-test.true in
    elim c.if-self-at.branch [
      | then-self-at w ↦
          let x = w.index-op.result.now in
          let there = slice_get-get_or now at x within ∙ ap Some (sym w.index-op.ensures) in
          let here = at_rest first now at x was.rest there in
          elim w.if-to-at.branch [
            | then-to-at+in_ok-ops v ↦
                let found = v.in_ok-ops.field-0 in
                let written : new ≡ set now to found = ap (λ u. u.items) (w.ops-is ∙ v.ops-is) in
                let front = front_written now new to found (omega (arith, was.count, was.few, c.loop-at-test.true)) written in
                record {
                  count = ap length written ∙ length-set now to found ∙ was.count;
                  few = omega (arith, w.to-is, was.few);
                  numbered =
                      subst (λ n. AreNumbered places (chosen (take (at + 1) listed) (take (at + 1) ops)) (map operation_of (take n new))) (sym w.to-is)
                      (numbered_next places listed ops at _ (take to now) (take (to + 1) new) found (mark ∙ ap Some w.if-self-at.true) (at_place g.places first at x here) was.numbered v.in_ok-ops.ensures front);
                  rest = rest_written first now new at to found was.rest was.few written;
                }
            | else-to-at+else-has_target v ↦
                let same : new ≡ now = ap (λ u. u.items) (w.ops-is ∙ v.ops-is) in
                let stays : to ≡ at = omega (arith, was.few, v.if-to-at.false) in
                let none : has_target (operation_of x) ≡ false = sym v.has_target.ensures ∙ v.if-has_target.false in
                let fits = all_at FitsInstructions (map operation_of first) at (operation_of x) c.requires.1.1.1.0 (slice_get-map operation_of first at ∙ ap (option_map operation_of) here) in
                let front : take (to + 1) new ≡ take to now ++ x ∷ [] = ap (take (to + 1)) same ∙ take_next now to x (ap (slice_get now) stays ∙ there) in
                record {
                  count = ap length same ∙ was.count;
                  few = omega (arith, w.to-is, was.few);
                  numbered =
                      subst (λ n. AreNumbered places (chosen (take (at + 1) listed) (take (at + 1) ops)) (map operation_of (take n new))) (sym w.to-is)
                      (numbered_next places listed ops at _ (take to now) (take (to + 1) new) x (mark ∙ ap Some w.if-self-at.true) (at_place g.places first at x here) was.numbered (untargeted g.places places (operation_of x) none fits) front);
                  rest = ap (drop (at + 1)) same ∙ rest_more first now at was.rest;
                }
          ]
      | else-self-at w ↦
          let x = get_or now at Sbrk in
          let here = at_rest first now at x was.rest (slice_get-get_or now at Sbrk within) in
          let same : new ≡ now = ap (λ v. v.items) w.ops-is in
          let front = ap (λ n. take n new) w.to-is ∙ ap (take to) same in
          record {
            count = ap length same ∙ was.count;
            few = omega (arith, w.to-is, was.few);
            numbered =
                subst (λ (l : List SourceOp). AreNumbered places (chosen (take (at + 1) listed) (take (at + 1) ops)) (map operation_of l)) (sym front)
                (numbered_skip places listed ops at _ (map operation_of (take to now)) (mark ∙ ap Some w.if-self-at.false) (at_place g.places first at x here) was.numbered);
            rest = ap (drop (at + 1)) same ∙ rest_more first now at was.rest;
          }
    ]
