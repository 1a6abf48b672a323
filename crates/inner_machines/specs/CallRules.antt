-- What the inner machines of a run have to be, for the host that serves them to keep the rules of hosts.
use Rattle.std.specs.Prelude.{◌≡◌, ℕ, ◌<◌, ◌≤◌, ◌^◌, length, Some}
use Rattle.std.specs.FinMap as map
use Rattle.runs.specs.World.{World}
use Rattle.machine_state.specs.State.{State}
use Rattle.machine_state.specs.Ends.{Answer, Answered, Ended, panic}
use Rattle.machine_state.specs.Hosts.{Bounds, Shares, AnswersWell}
use Rattle.inner_machines.specs.Inner.{Inner, Inners, most_program_bytes, frames}
use Rattle.inner_machines.specs.Calls.{nest_call}

-- an inner machine as calls make and leave it: a program that is not too long, and a word for the counter
pub record IsInner (inner : Inner) : Type 0 where
  pub program : length inner.program ≤ most_program_bytes
  pub counter : inner.counter < 2 ^ 64

-- The inner machines fit the bounds of the machine that calls: its pages and theirs are all that a run may have.
pub record InnersFit (heap_bound : ℕ) (bounds : Bounds) (inners : Inners) : Type 0 where
  pub shares : Shares heap_bound frames bounds inners
  pub each : (number : ℕ) (inner : Inner) → map.get inners number ≡ Some inner → IsInner inner

-- the calls on inner machines keep the rules of hosts
abbrev pub CallsAnswerWell : Type 0
CallsAnswerWell = (heap_bound : ℕ) → AnswersWell (InnersFit heap_bound) nest_call

-- an answer goes on, or ends by a panic
abbrev pub IsOrPanics : State → Answer Inners → Type 0
IsOrPanics s (Answered spent rest next) = Unit {0}
IsOrPanics s (Ended end) = end ≡ panic s

-- a call on inner machines that ends the run ends it by a panic
abbrev pub CallsPanic : Type 0
CallsPanic = (number : ℕ) (w : World State Inners) → IsOrPanics w.state (nest_call number w)
