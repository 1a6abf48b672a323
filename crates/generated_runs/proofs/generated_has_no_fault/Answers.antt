use Rattle.generated_runs.proofs.Size.{generated-has_no_fault}
use Rattle.generated_runs.proofs.generated_has_no_fault.Goals as goal

pub returns : goal.returns
returns c =
    generated-has_no_fault c.generated_is_given.ensures c.nothing_is_listed.ensures c.generated_is_lifted.ensures c.generated_is_lowered.ensures c.lifted_is_one.ensures
