-- How the program of a generated object runs.
use Rattle.std.specs.Prelude.{◌≡◌, ℕ, List, [], Some}
use Rattle.runs.specs.Runs.{MeteredRun}
use Rattle.machine_state.specs.Ends.{Event, End, Halt}
use Rattle.machine_state.specs.Memory.{Memory}

-- A run under gas halts, without a host call, with all of this gas spent, one for each instruction that was begun.
pub record SpendsAll (gas : ℕ) (run : MeteredRun Event End) : Type 0 where
  pub registers : List ℕ
  pub memory : Memory
  pub is : run ≡ record { events = []; end = Some (Halt registers memory); left = 0; begun = gas }
