use Rattle.generated_runs.proofs.Lifted.{generated-is_lifted}
use Rattle.generated_runs.proofs.generated_is_lifted.Goals as goal

pub returns : goal.returns
returns c = generated-is_lifted c.texts_are_operations.ensures
