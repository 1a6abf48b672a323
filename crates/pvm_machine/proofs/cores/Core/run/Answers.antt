use Rattle.std.proofs.Common.{sym, ◌∙◌}
use Rattle.pvm_machine.proofs.Runs.{steps_on, last_step, reached_next, keeps_on}
use Rattle.pvm_machine.proofs.Hosted.{ran}
use Rattle.pvm_machine.proofs.Kept.{never_short}
use Rattle.pvm_machine.proofs.cores.Core.run.Goals as goal

pub returns-in-Some-clause-steps : goal.returns-in-Some-clause-steps
returns-in-Some-clause-steps c = last_step _ _ _ _ c.loop-exit.invariant.steps c.loop-exit.invariant.reached (rw c.in-Some.ensures at c.step.ensures.step)

pub returns-in-Some-clause-run : goal.returns-in-Some-clause-run
returns-in-Some-clause-run c = ran _ _ _ (last_step _ _ _ _ c.loop-exit.invariant.steps c.loop-exit.invariant.reached (rw c.in-Some.ensures at c.step.ensures.step))

pub loop-exit-preserved : goal.loop-exit-preserved
loop-exit-preserved c = record {
  steps = sym (steps_on _ _ (rw c.in_default.ensures at c.step.ensures.step) (rw c.in_default.ensures at c.step.ensures.costs)) ∙ c.loop-exit.invariant.steps;
  reached = reached_next _ _ _ c.loop-exit.invariant.reached (rw c.in_default.ensures at c.step.ensures.step);
  keeps = keeps_on _ _ _ c.loop-exit.invariant.keeps c.step.ensures.keeps;
}

pub returns-in-Some-clause-memory : goal.returns-in-Some-clause-memory
returns-in-Some-clause-memory c =
    never_short c.stores_keep_pages.ensures _ _ _ (keeps_on _ _ _ c.loop-exit.invariant.keeps c.step.ensures.keeps) (returns-in-Some-clause-steps c)
