use Rattle.generated_runs.proofs.Unlisted.{nothing-is_listed}
use Rattle.generated_runs.proofs.nothing_is_listed.Goals as goal

pub returns : goal.returns
returns c = nothing-is_listed c.objects_are_spelled.ensures c.texts_are_operations.ensures
