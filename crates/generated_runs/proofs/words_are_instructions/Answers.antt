use Rattle.generated_runs.proofs.Program.{words-are_instructions}
use Rattle.generated_runs.proofs.words_are_instructions.Goals as goal

pub returns : goal.returns
returns c = words-are_instructions
