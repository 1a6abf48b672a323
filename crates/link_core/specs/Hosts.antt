-- What the host of a run may hold.
use Rattle.std.specs.Prelude.{ℕ}
use Rattle.std.specs.List.{AllByRecursion}
use Rattle.machine_state.specs.Hosts.{Bounds}
use Rattle.inner_machines.specs.CallRules.{InnersFit}
use Rattle.transcript.specs.Hosts.{HostState, IsReply}

-- its inner machines fit the machine's bounds, and its replies are words
pub record HostFits (heap_bound : ℕ) (bounds : Bounds) (h : HostState) : Type 0 where
  pub inner : InnersFit heap_bound bounds h.inner
  pub replies : AllByRecursion IsReply h.replies
