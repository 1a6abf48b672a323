use Rattle.generated_runs.proofs.Texts.{texts-are-operations}
use Rattle.generated_runs.proofs.texts_are_operations.Goals as goal

pub returns : goal.returns
returns c = texts-are-operations c.words_are_operations.ensures
