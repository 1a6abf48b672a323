use Rattle.std.proofs.Common.{refl}
use Rattle.std.specs.Prelude.{IsTrue}
use Rattle.runs.proofs.Simulation.{agree}
use Rattle.runs.proofs.simulation_agrees.Goals as goal

pub returns : goal.returns
returns c = λ source target matches simulation_step s t entry m enters. agree source target (λ s t. IsTrue (matches s t)) simulation_step target s t entry t m enters (λ most gas. refl)
