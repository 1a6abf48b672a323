use Rattle.inner_machines.proofs.Kept.{calls_answer_well}
use Rattle.inner_machines.proofs.rules.calls_answer_well.Goals as goal

pub returns : goal.returns
returns c = calls_answer_well c.steps_stay_within.ensures
