-- What `sbrk` results in.
use Rattle.std.proofs.Common.{◌≡◌, ◌≢◌, ℕ, ◌+◌, Bool, true, false, refl, arith}
use Rattle.std.specs.Prelude.{◌<◌, ◌≤◌, nat_eq, nat_le, if◌then◌else◌}
use Rattle.std.specs.FinMap as map
use Rattle.std.proofs.Math.Bool.{and-false}
use Rattle.std.proofs.lemmas.Bool.{le-leb, lt-leb, and_parts}
use Rattle.std.proofs.lemmas.Bool.Decides.{nat_tests}
use Rattle.machine_state.specs.State.{State, with_register, IsState}
use Rattle.machine_state.specs.Heap.{with_heap, may_end_at, with_top, sbrk}
use Rattle.machine_state.specs.Hosts.{bounds_of}
use Rattle.machine_state.specs.Laws.{SbrkIsGood}
use Rattle.machine_state.proofs.Registers.{registers_stay}

-- by no bytes it returns where the heap ends
pub sbrk_none : (s : State) (at size : ℕ) → size ≡ 0 → sbrk s at size ≡ with_register s at s.heap_top
unfolding sbrk
sbrk_none s at size none = rw none refl

some : (size : ℕ) → size ≢ 0 → nat_eq size 0 ≡ false
some size more = grind (arith, nat_tests)

-- by others the heap becomes longer where it may end there
pub sbrk_grows : (s : State) (at size : ℕ) → size ≢ 0 → may_end_at s (s.heap_top + size) ≡ true → sbrk s at size ≡ with_register (with_top s (s.heap_top + size)) at s.heap_top
unfolding sbrk
sbrk_grows s at size more may = rw (some size more, may) refl

-- and else it stays
pub sbrk_stays : (s : State) (at size : ℕ) → size ≢ 0 → may_end_at s (s.heap_top + size) ≡ false → sbrk s at size ≡ with_register s at 0
unfolding sbrk
sbrk_stays s at size more may = rw (some size more, may) refl

-- it leaves the state of a machine
pub sbrk_is_good : SbrkIsGood
unfolding sbrk
sbrk_is_good s at size h = by_tests (nat_eq size 0) (may_end_at s (s.heap_top + size)) refl
  where
    grown : nat_le (s.heap_top + size) s.heap_bound ≡ true → IsState (with_top s (s.heap_top + size))
    grown within = record { registers = h.registers; heap_top = grind (arith, nat_tests, h.heap_bound); heap_bound = h.heap_bound }

    by_tests : (none may : Bool) → may_end_at s (s.heap_top + size) ≡ may → IsState (if none then with_register s at s.heap_top else (if may then with_register (with_top s (s.heap_top + size)) at s.heap_top else with_register s at 0))
    by_tests true may e = registers_stay s at s.heap_top h h.heap_top
    by_tests false true e = registers_stay (with_top s (s.heap_top + size)) at s.heap_top (grown (and_parts (nat_le (s.heap_top + size) s.heap_bound) _ e).0) h.heap_top
    by_tests false false e = registers_stay s at 0 h (omega arith)

-- no bound changes
pub sbrk_bounds : (s : State) (at size : ℕ) → bounds_of (sbrk s at size) ≡ bounds_of s
unfolding sbrk
sbrk_bounds s at size = by_tests (nat_eq size 0) (may_end_at s (s.heap_top + size))
  where
    by_tests : (none may : Bool) → bounds_of (if none then with_register s at s.heap_top else (if may then with_register (with_top s (s.heap_top + size)) at s.heap_top else with_register s at 0)) ≡ bounds_of s
    by_tests true may = refl
    by_tests false true = refl
    by_tests false false = refl

-- the heap may end within its bound, with as many pages as the memory may have
pub may_end : (s : State) (top : ℕ) → top ≤ s.heap_bound → map.len (with_heap s top) ≤ s.frame_limit → may_end_at s top ≡ true
may_end s top within few = rw (le-leb top s.heap_bound within, le-leb (map.len (with_heap s top)) s.frame_limit few) refl

pub not_past_bound : (s : State) (top : ℕ) → s.heap_bound < top → may_end_at s top ≡ false
not_past_bound s top past = rw (lt-leb top s.heap_bound past) refl

pub not_with_more : (s : State) (top : ℕ) → s.frame_limit < map.len (with_heap s top) → may_end_at s top ≡ false
not_with_more s top many = rw (lt-leb (map.len (with_heap s top)) s.frame_limit many) (and-false (nat_le top s.heap_bound))
