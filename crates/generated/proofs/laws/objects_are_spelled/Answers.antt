use Rattle.generated.proofs.Whole.{objects-are-spelled}
use Rattle.generated.proofs.laws.objects_are_spelled.Goals as goal

pub returns : goal.returns
returns c = objects-are-spelled
