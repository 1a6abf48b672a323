use Rattle.jump_table.proofs.Lengthening.{grown_more}
use Rattle.jump_table.proofs.settling.settle.Goals as goal

pub returns-in_err-look : goal.returns-in_err-look
returns-in_err-look c = grown_more _ _ _ _ c.loop.invariant.grown c.look.ensures.grown

pub loop-preserved : goal.loop-preserved
loop-preserved c = record { placed = c.look.ensures.placed; grown = grown_more _ _ _ _ c.loop.invariant.grown c.look.ensures.grown }
