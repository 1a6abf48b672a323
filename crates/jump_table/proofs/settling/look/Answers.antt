use Rattle.jump_table.proofs.Lengthening.{grown_more}
use Rattle.jump_table.proofs.settling.look.Goals as goal
use Rattle.jump_table.proofs.settling.look.Goals.{then-index-range+in_ok-visit, else-index-range}

pub returns-in_err-visit-clause-grown : goal.returns-in_err-visit-clause-grown
returns-in_err-visit-clause-grown c = grown_more _ _ _ _ c.loop-block.invariant.grown c.visit.ensures.grown

pub loop-block-preserved : goal.loop-block-preserved
loop-block-preserved c =
    elim c.if-index-range.branch [
      | then-index-range+in_ok-visit w ↦
          rw (w.places-is, w.lengths-is) (record { placed = w.visit.ensures.placed; grown = grown_more _ _ _ _ c.loop-block.invariant.grown w.visit.ensures.grown })
      | else-index-range w ↦ rw (w.places-is, w.lengths-is) c.loop-block.invariant
    ]
