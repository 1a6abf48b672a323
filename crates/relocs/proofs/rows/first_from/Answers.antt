use Rattle.std.proofs.Common.{◌<◌, ◌≤◌, length, get_or, arith}
use Rattle.std.proofs.lemmas.Option.{slice_get-get_or}
use Rattle.relocs.proofs.ByOffset.{at_zero, low_more, high_less}
use Rattle.relocs.proofs.rows.first_from.Goals as goal

pub returns-then-limit-from : goal.returns-then-limit-from
returns-then-limit-from c =
    let in_list : c.loop-at.at < length c.args.row.now = omega (arith, c.loop-at-test.true) in
    let from : c.args.limit ≤ (get_or c.args.row.now c.loop-at.at (at_zero 0)).offset = omega (arith, c.from.ensures, c.if-limit-from.true) in
    record {
      within = omega (arith, in_list);
      below = c.loop-at.invariant.below;
      above = high_less c.args.row.now c.args.limit c.loop-at.at _ c.requires.rises (slice_get-get_or c.args.row.now c.loop-at.at (at_zero 0) in_list) from;
    }

pub loop-at-preserved : goal.loop-at-preserved
loop-at-preserved c =
    let in_list : c.loop-at.at < length c.args.row.now = omega (arith, c.loop-at-test.true) in
    let less : (get_or c.args.row.now c.loop-at.at (at_zero 0)).offset < c.args.limit = omega (arith, c.from.ensures, c.if-limit-from.false) in
    record {
      order = omega (arith, in_list);
      within = omega arith;
      below = low_more c.args.row.now c.args.limit c.loop-at.at _ c.requires.rises (slice_get-get_or c.args.row.now c.loop-at.at (at_zero 0) in_list) less;
      above = c.loop-at.invariant.above;
    }
