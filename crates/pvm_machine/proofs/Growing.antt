-- What `sbrk` makes of a machine.
use Rattle.std.proofs.Common.{◌≡◌, ◌≢◌, ℕ, ◌+◌, ◌<◌, ◌≤◌, Bool, true, false, refl, ap, sym}
use Rattle.std.specs.FinMap as map
use Rattle.std.proofs.lemmas.Bool.{leb-true, leb-false}
use Rattle.std.specs.Prelude.{nat_le}
use Rattle.machine_state.specs.State.{State, with_register}
use Rattle.machine_state.specs.Start.{pages_of}
use Rattle.machine_state.specs.Heap.{with_heap, may_end_at, with_top, sbrk}
use Rattle.machine_state.proofs.Heap.{sbrk_none, sbrk_grows, sbrk_stays, may_end}
use Rattle.pvm_machine.specs.Machine.{Core, machine_on}
use Rattle.pvm_ops.specs.Listing.{Listing}
use Rattle.std.specs.Prelude.{List}
use Rattle.pvm_machine.specs.declared.cores.Core.TheInside.{Inside}

-- the state of a core by its fields, and the core
abbrev pub state_in : Inside → State
state_in c = record { registers = c.registers; memory = c.memory; heap_top = c.heap_top; heap_bound = c.heap_bound; frame_limit = c.frame_limit }

abbrev pub core_in : Inside → Core
core_in c = record { counter = c.counter; state = state_in c; gas = c.gas }

abbrev pub with_state : Core → State → Core
with_state c s = record c { state = s }

module _ (m : Core) (at size : ℕ) where
  pub grows_none : size ≡ 0 → with_state m (sbrk m.state at size) ≡ with_state m (with_register m.state at m.state.heap_top)
  grows_none none = ap (with_state m) (sbrk_none m.state at size none)

  pub stays_short : size ≢ 0 → may_end_at m.state (m.state.heap_top + size) ≡ false → with_state m (sbrk m.state at size) ≡ with_state m (with_register m.state at 0)
  stays_short more may = ap (with_state m) (sbrk_stays m.state at size more may)

  pub grows_on : size ≢ 0 → may_end_at m.state (m.state.heap_top + size) ≡ true → with_state m (sbrk m.state at size) ≡ with_state m (with_register (with_top m.state (m.state.heap_top + size)) at m.state.heap_top)
  grows_on more may = ap (with_state m) (sbrk_grows m.state at size more may)

  pub maps_pages : size ≢ 0 → may_end_at m.state (m.state.heap_top + size) ≡ true → pages_of m.state.heap_top < pages_of (m.state.heap_top + size) → pages_of m.state.heap_top < pages_of (sbrk m.state at size).heap_top
  maps_pages more may higher = rw (sbrk_grows m.state at size more may) higher

-- pages that are not too many are few enough
few_enough : (n limit : ℕ) → (limit < n → ⊥) → n ≤ limit
few_enough n limit few = by_test (nat_le n limit) refl
  where
    by_test : (b : Bool) → nat_le n limit ≡ b → n ≤ limit
    by_test true e = leb-true n limit e
    by_test false e = absurd (few (leb-false n limit e))

-- the heap may end where no bound is in the way
pub may_reach : (s : State) (top : ℕ) → top ≤ s.heap_bound → (s.frame_limit < map.len (with_heap s top) → ⊥) → may_end_at s top ≡ true
may_reach s top within few = may_end s top within (few_enough (map.len (with_heap s top)) s.frame_limit few)

-- a core whose heap grew, and where a register took a value
module _ (m n : Core) (at size value : ℕ) (grown : with_state m (sbrk m.state at size) ≡ with_state n (with_register n.state at value)) where
  pub grown_costs : n.gas ≡ m.gas
  grown_costs = sym (ap (λ (x : Core). x.gas) grown)

  -- so do the machines that run a program on them
  pub grown_goes : (table : List ℕ) (code : Listing) (next : ℕ) → machine_on table code (record n { counter = next; state = with_register n.state at value }) ≡ machine_on table code (record m { counter = next; state = sbrk m.state at size })
  grown_goes table code next = ap (λ (x : Core). machine_on table code (record x { counter = next })) (sym grown)
