use Rattle.runs.proofs.Lockstep.{lockstep_run, lockstep_with_gas}
use Rattle.runs.proofs.lockstep_runs_the_same.Goals as goal

pub returns : goal.returns
returns c = λ rules act act' code places position fetch lockstep s t m. (λ n. lockstep_run rules act act' code places position fetch lockstep n s t m, λ gas. lockstep_with_gas rules act act' code places position fetch lockstep gas gas s t m)
