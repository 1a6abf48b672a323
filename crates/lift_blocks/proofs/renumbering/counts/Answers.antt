use Rattle.std.proofs.Common.{false, Some, ap, ◌∙◌, arith}
use Rattle.std.proofs.lemmas.Option.{slice_get-get_or}
use Rattle.lift_blocks.proofs.Relisted.{counts_next, counts_all}
use Rattle.lift_blocks.proofs.renumbering.counts.Goals as goal
use Rattle.lift_blocks.proofs.renumbering.counts.Goals.{then-listed-at, else-listed-at}

pub loop-at-preserved : goal.loop-at-preserved
loop-at-preserved c =
    let bs = c.args.listed.now in
    let here = slice_get-get_or bs c.loop-at.at false (omega arith) in
    elim c.if-listed-at.branch [
      | then-listed-at w ↦ record {
        counts = counts_next bs c.loop-at.at c.loop-at.count c.if-listed-at.count _ c.loop-at.counts.items c.push.new.self.items (here ∙ ap Some w.if-listed-at.true) c.loop-at.invariant.counts c.in_ok-push.ensures.items (omega arith);
        few = omega arith;
      }
      | else-listed-at w ↦ record {
        counts = counts_next bs c.loop-at.at c.loop-at.count c.if-listed-at.count _ c.loop-at.counts.items c.push.new.self.items (here ∙ ap Some w.if-listed-at.false) c.loop-at.invariant.counts c.in_ok-push.ensures.items (omega arith);
        few = omega arith;
      }
    ]

pub returns : goal.returns
returns c = counts_all c.args.listed.now c.loop-at.at c.loop-at.count c.loop-at.counts.items c.loop-at.invariant.counts (omega arith)
