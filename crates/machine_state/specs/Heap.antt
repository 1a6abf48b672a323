-- The heap: pages between the program's data and its stack, which `sbrk` adds (JAM Gray Paper 0.7.0, appendix A.5). Both
-- machines have it.
use Rattle.std.specs.Prelude.{ℕ, ◌+◌, ◌-◌, [], Bool, ◌&&◌, nat_eq, nat_le, if◌then◌else◌}
use Rattle.std.specs.FinMap as map
use Rattle.machine_state.specs.Memory.{Memory, Writable, with_pages}
use Rattle.machine_state.specs.State.{State, with_register}
use Rattle.machine_state.specs.Start.{pages_of}

-- the memory where the heap ends at an address: the pages up to there are writable zero pages
abbrev pub with_heap : State → ℕ → Memory
with_heap s top = with_pages (pages_of top - pages_of s.heap_top) (pages_of s.heap_top) Writable [] s.memory

-- whether the heap may end at an address: below its bound, with no more pages than the memory may have
abbrev pub may_end_at : State → ℕ → Bool
may_end_at s top = nat_le top s.heap_bound && nat_le (map.len (with_heap s top)) s.frame_limit

-- the state where the heap ends at an address
abbrev pub with_top : State → ℕ → State
with_top s top = record s { memory = with_heap s top; heap_top = top }

-- `sbrk` makes the heap longer by `size` bytes. The register is set to the end of the heap before, or to 0 if the heap
-- may not grow by that much.
unfoldable pub sbrk : State → ℕ → ℕ → State
sbrk s at size =
    if nat_eq size 0 then with_register s at s.heap_top else
    if may_end_at s (s.heap_top + size) then with_register (with_top s (s.heap_top + size)) at s.heap_top else
    with_register s at 0
