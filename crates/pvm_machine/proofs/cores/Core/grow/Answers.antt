use Rattle.std.proofs.Common.{◌≡◌, ◌+◌, ◌≤◌, ◌<◌, refl, arith}
use Rattle.machine_state.specs.Heap.{with_heap}
use Rattle.machine_state.specs.Start.{pages_of}
use Rattle.machine_state.proofs.Heap.{not_past_bound, not_with_more}
use Rattle.pvm_machine.proofs.Growing.{state_in, core_in, grows_none, stays_short, grows_on, maps_pages, may_reach}
use Rattle.pvm_machine.proofs.cores.Core.grow.Goals.{then-size-self-via-then-size-self, then-size-self-via-else-size-self+then-top-self}
use Rattle.pvm_machine.proofs.cores.Core.grow.Goals as goal

pub returns-then-size-eq0-clause-ok : goal.returns-then-size-eq0-clause-ok
returns-then-size-eq0-clause-ok c = λ at. rw (← c.self.view_is) (grows_none (core_in c.self.inside) at c.args.size c.if-size-eq0.true)

pub returns-then-size-self-clause-ok : goal.returns-then-size-self-clause-ok
returns-then-size-self-clause-ok c = λ at.
    let past : c.self.inside.heap_bound < c.self.inside.heap_top + c.args.size =
    elim c.then-size-self.branch [ then-size-self-via-then-size-self w ↦ omega (arith, w.if-size-self.true) | then-size-self-via-else-size-self+then-top-self w ↦ omega (arith, w.if-size-self.false, w.if-top-self.true) ] in
    rw (← c.self.view_is) (stays_short (core_in c.self.inside) at c.args.size c.if-size-eq0.false (not_past_bound (state_in c.self.inside) (c.self.inside.heap_top + c.args.size) past))

pub returns-in-Ok-clause-ok : goal.returns-in-Ok-clause-ok
returns-in-Ok-clause-ok c = λ at.
    let s = state_in c.self.inside in
    let heap : c.map.new.self ≡ with_heap s (c.self.inside.heap_top + c.args.size) = rw (c.pages-first.ensures, c.pages.ensures) at c.in-Ok.ensures.mapped in
    let within : c.self.inside.heap_top + c.args.size ≤ c.self.inside.heap_bound = omega (arith, c.if-size-self.false, c.if-top-self.false) in
    let full = rw (c.pages-first.ensures, c.pages.ensures) at c.in-Ok.ensures.full in
    rw (← c.self.view_is) (rw heap (grows_on (core_in c.self.inside) at c.args.size c.if-size-eq0.false (may_reach s (c.self.inside.heap_top + c.args.size) within (λ many. cc (full.1 many)))))

pub returns-in-Err-Full-clause-ok : goal.returns-in-Err-Full-clause-ok
returns-in-Err-Full-clause-ok c = λ at.
    let s = state_in c.self.inside in
    let full = rw (c.pages-first.ensures, c.pages.ensures) at c.in-Err-Full.ensures.full in
    rw (← c.self.view_is) (rw c.in-Err-Full.ensures.stays (stays_short (core_in c.self.inside) at c.args.size c.if-size-eq0.false (not_with_more s (c.self.inside.heap_top + c.args.size) (full.0 (rw c.in-Err-Full.field-0-is refl)))))

pub returns-in-Err-Memory-clause-maps : goal.returns-in-Err-Memory-clause-maps
returns-in-Err-Memory-clause-maps c = λ at.
    let s = state_in c.self.inside in
    let within : c.self.inside.heap_top + c.args.size ≤ c.self.inside.heap_bound = omega (arith, c.if-size-self.false, c.if-top-self.false) in
    let full = rw (c.pages-first.ensures, c.pages.ensures, c.in-Err-Memory.field-0-is) at c.in-Err-Memory.ensures.full in
    let count = rw (c.pages-first.ensures, c.pages.ensures, c.in-Err-Memory.field-0-is) at c.in-Err-Memory.ensures.some in
    let higher : pages_of c.self.inside.heap_top < pages_of (c.self.inside.heap_top + c.args.size) = omega (arith, count refl) in
    rw (← c.self.view_is) (maps_pages (core_in c.self.inside) at c.args.size c.if-size-eq0.false (may_reach s (c.self.inside.heap_top + c.args.size) within (λ many. cc (full.1 many))) higher)
