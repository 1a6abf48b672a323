use Rattle.generated.proofs.Decoding.{words-are-operations}
use Rattle.generated.proofs.laws.words_are_operations.Goals as goal

pub returns : goal.returns
returns c = words-are-operations
