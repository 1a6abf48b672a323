use Rattle.generated_runs.proofs.Program.{generated-is_lowered}
use Rattle.generated_runs.proofs.generated_is_lowered.Goals as goal

pub returns : goal.returns
returns c = generated-is_lowered
