use Rattle.std.proofs.Common.{◌+◌, ◌-◌, ◌/◌, ◌<◌, ◌≤◌, ◌∙◌, sym, arith, map, length, get_or, ℕ}
use Rattle.lift_blocks.specs.declared.site.Site.TheVariants as names
use Rattle.lift_blocks.specs.Kept.{site_of}
use Rattle.lift_blocks.specs.Rank.{rank_of}
use Rattle.lift_blocks.proofs.Finding.{low_more, high_less, mapped_at}
use Rattle.lift_blocks.proofs.search.first_from.Goals as goal

pub loop-low-preserved-then-is_before : goal.loop-low-preserved-then-is_before
loop-low-preserved-then-is_before c =
    let places = map site_of c.args.places.now in
    let middle : ℕ = c.loop-low.low + (c.loop-low.high - c.loop-low.low) / 2 in
    let in_list : middle < length c.args.places.now = omega (arith, c.loop-low-test.true, c.loop-low.invariant.within, c.requires.within) in
    let before : rank_of (site_of (get_or c.args.places.now middle (names.Code 0 0 0))) < rank_of (site_of c.args.place) = grind (arith, sym c.is_before.ensures ∙ c.if-is_before.true) in
    record {
      within = c.loop-low.invariant.within;
      below = λ k p from lt e. low_more places (site_of c.args.place) _ middle c.requires.ascends (mapped_at c.args.places.now middle (names.Code 0 0 0) in_list) before k p lt e;
      above = c.loop-low.invariant.above;
    }

pub loop-low-preserved : goal.loop-low-preserved
loop-low-preserved c =
    let places = map site_of c.args.places.now in
    let middle : ℕ = c.loop-low.low + (c.loop-low.high - c.loop-low.low) / 2 in
    let in_list : middle < length c.args.places.now = omega (arith, c.loop-low-test.true, c.loop-low.invariant.within, c.requires.within) in
    let from : rank_of (site_of c.args.place) ≤ rank_of (site_of (get_or c.args.places.now middle (names.Code 0 0 0))) = grind (arith, sym c.is_before.ensures ∙ c.if-is_before.false) in
    record {
      within = omega (arith, c.loop-low-test.true, c.loop-low.invariant.within);
      below = c.loop-low.invariant.below;
      above = λ k p le lt e. high_less places (site_of c.args.place) _ middle c.requires.ascends (mapped_at c.args.places.now middle (names.Code 0 0 0) in_list) from k p le e;
    }

pub returns : goal.returns
returns c = record {
  below = c.loop-low.invariant.below;
  above = λ k p le lt e. c.loop-low.invariant.above k p (omega (arith, le, c.loop-low-test.false)) lt e;
}
