use Rattle.std.proofs.Common.{◌<◌, ◌≤◌, ◌+◌, ◌-◌, ◌/◌, length, get_or, ℕ, arith}
use Rattle.std.proofs.lemmas.Option.{slice_get-get_or}
use Rattle.relocs.proofs.ByOffset.{at_zero, low_more, high_less}
use Rattle.relocs.proofs.rows.bound.Goals as goal

pub loop-low-preserved-then-from-limit : goal.loop-low-preserved-then-from-limit
loop-low-preserved-then-from-limit c =
    let middle : ℕ = c.loop-low.low + (c.loop-low.high - c.loop-low.low) / 2 in
    let in_list : middle < length c.args.row.now = omega (arith, c.loop-low-test.true, c.loop-low.invariant.within) in
    let less : (get_or c.args.row.now middle (at_zero 0)).offset < c.args.limit = omega (arith, c.from.ensures, c.if-from-limit.true) in
    record {
      order = omega (arith, c.loop-low-test.true);
      within = c.loop-low.invariant.within;
      below = low_more c.args.row.now c.args.limit middle _ c.requires.rises (slice_get-get_or c.args.row.now middle (at_zero 0) in_list) less;
      above = c.loop-low.invariant.above;
    }

pub loop-low-preserved : goal.loop-low-preserved
loop-low-preserved c =
    let middle : ℕ = c.loop-low.low + (c.loop-low.high - c.loop-low.low) / 2 in
    let in_list : middle < length c.args.row.now = omega (arith, c.loop-low-test.true, c.loop-low.invariant.within) in
    let from : c.args.limit ≤ (get_or c.args.row.now middle (at_zero 0)).offset = omega (arith, c.from.ensures, c.if-from-limit.false) in
    record {
      order = omega arith;
      within = omega (arith, in_list);
      below = c.loop-low.invariant.below;
      above = high_less c.args.row.now c.args.limit middle _ c.requires.rises (slice_get-get_or c.args.row.now middle (at_zero 0) in_list) from;
    }
