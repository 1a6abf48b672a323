use Rattle.generated_runs.proofs.Unlisted.{generated-is_given}
use Rattle.generated_runs.proofs.generated_is_given.Goals as goal

pub returns : goal.returns
returns c = generated-is_given c.objects_are_spelled.ensures
