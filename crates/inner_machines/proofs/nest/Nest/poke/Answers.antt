use Rattle.std.proofs.Common.{◌≡◌, Bool, true, false, ap, sym, ◌∙◌, refl}
use Rattle.std.specs.Prelude.{Some, None}
use Rattle.std.specs.Option.{option_copied_mut}
use Rattle.std.specs.FinMap as map
use Rattle.machine_state.specs.State.{register}
use Rattle.machine_state.specs.Ends.{Answer}
use Rattle.pvm_machine.specs.Machine.{Machine}
use Rattle.page_memory.specs.Access.{touched, with_bytes}
use Rattle.page_memory.specs.Ranges.{range_allows}
use Rattle.page_memory.proofs.Counted.{len-with_bytes}
use Rattle.inner_machines.specs.Inner.{Inner, Inners}
use Rattle.inner_machines.specs.Calls.{answers, poke_call, ok}
use Rattle.inner_machines.proofs.Gaps.{with_same}
use Rattle.inner_machines.proofs.Counted.{same_pages}
use Rattle.inner_machines.proofs.Moving.{moved, barred_outside, not_found, barred_inside, is_moved}
use Rattle.inner_machines.proofs.nest.Nest.poke.Goals as goal

abbrev outside : Machine → Bool
outside m = range_allows m.state.memory false (register m.state 8) (register m.state 10)

abbrev inside : Machine → Inner → Bool
inside m inner = range_allows inner.memory true (register m.state 9) (register m.state 10)

abbrev done : Machine → Inners → Inner → Answer Inners
done m inners inner = answers ok m.state (map.insert inners (register m.state 7) (record inner { memory = with_bytes inner.memory (register m.state 9) (touched m.state.memory (register m.state 8) (register m.state 10)) }))

is_poke : (m : Machine) (inners : Inners) → poke_call m.state inners ≡ moved m inners (outside m) (map.get inners (register m.state 7)) (inside m) (done m inners)
unfolding poke_call
is_poke m inners = refl

pub returns-then-not-allows-clause-leaves : goal.returns-then-not-allows-clause-leaves
returns-then-not-allows-clause-leaves c =
    let m = c.args.outer.now in
    let no : outside m ≡ false = rw (← c.register-from.ensures, ← c.register-len.ensures, ← c.memory.ensures) (sym c.allows.ensures.answer ∙ c.if-not-allows.true) in
    barred_outside m c.args.self.now _ _ (inside m) (done m c.args.self.now) _ (is_poke m c.args.self.now) no

pub returns-in_default-clause-leaves : goal.returns-in_default-clause-leaves
returns-in_default-clause-leaves c =
    let m = c.args.outer.now in
    let slots = c.self.inside.slots in
    let yes : outside m ≡ true = rw (← c.register-from.ensures, ← c.register-len.ensures, ← c.memory.ensures) (sym c.allows.ensures.answer ∙ c.if-not-allows.false) in
    let none : map.get slots (register m.state 7) ≡ None = rw (← c.register-number.ensures) (sym c.find_mut.ensures.value ∙ ap option_copied_mut c.in_default.is) in
    rw (← c.self.view_is) (not_found m slots _ _ (inside m) (done m slots) _ (is_poke m slots) _ _ yes none c.answer.ensures.done c.answer.ensures.outer)

pub invariant_of-self-then-not-allows-2 : goal.invariant_of-self-then-not-allows-2
invariant_of-self-then-not-allows-2 c = rw (with_same c.self.inside.slots c.register-number.result (Some c.in-Some.inner.now) (sym c.in-Some.ensures.value)) c.self.invariant

pub returns-then-not-allows-2-clause-leaves : goal.returns-then-not-allows-2-clause-leaves
returns-then-not-allows-2-clause-leaves c =
    let m = c.args.outer.now in
    let slots = c.self.inside.slots in
    let yes : outside m ≡ true = rw (← c.register-from.ensures, ← c.register-len.ensures, ← c.memory.ensures) (sym c.allows.ensures.answer ∙ c.if-not-allows.false) in
    let got : map.get slots (register m.state 7) ≡ Some c.in-Some.inner.now = rw (← c.register-number.ensures) (sym c.in-Some.ensures.value) in
    let no : inside m c.in-Some.inner.now ≡ false = rw (← c.register-to.ensures, ← c.register-len.ensures, ← c.memory-2.ensures) (sym c.allows-2.ensures.answer ∙ c.if-not-allows-2.true) in
    let same : map.insert slots c.register-number.result c.in-Some.inner.now ≡ slots = with_same slots c.register-number.result (Some c.in-Some.inner.now) (sym c.in-Some.ensures.value) in
    rw (← c.self.view_is, same) (barred_inside m slots _ _ (inside m) (done m slots) _ (is_poke m slots) _ _ _ yes got no c.answer-then-not-allows-2.ensures.done (rw same at c.answer-then-not-allows-2.ensures.outer))

pub invariant_of-self-2 : goal.invariant_of-self-2
invariant_of-self-2 c =
    same_pages c.self.inside.slots _ _ c.register-number.result c.in-Some.inner.now c.copy.new.to c.self.invariant c.in-Some.ensures.below (sym c.in-Some.ensures.value)
    (ap map.len c.copy.ensures ∙ len-with_bytes _ _ _ ∙ ap map.len c.memory_mut.ensures.memory)

pub returns-clause-leaves : goal.returns-clause-leaves
returns-clause-leaves c =
    let m = c.args.outer.now in
    let slots = c.self.inside.slots in
    let inner = c.in-Some.inner.now in
    let yes : outside m ≡ true = rw (← c.register-from.ensures, ← c.register-len.ensures, ← c.memory.ensures) (sym c.allows.ensures.answer ∙ c.if-not-allows.false) in
    let got : map.get slots (register m.state 7) ≡ Some inner = rw (← c.register-number.ensures) (sym c.in-Some.ensures.value) in
    let may : inside m inner ≡ true = rw (← c.register-to.ensures, ← c.register-len.ensures, ← c.memory-2.ensures) (sym c.allows-2.ensures.answer ∙ c.if-not-allows-2.false) in
    let copied : with_bytes inner.memory (register m.state 9) (touched m.state.memory (register m.state 8) (register m.state 10)) ≡ c.copy.new.to =
    rw (← c.register-to.ensures, ← c.register-from.ensures, ← c.register-len.ensures, ← c.memory_mut.ensures.memory, ← c.memory-3.ensures) (sym c.copy.ensures) in
    let does : done m slots inner ≡ answers ok m.state (map.insert slots c.register-number.result (record inner { memory = c.copy.new.to })) = rw (copied, ← c.register-number.ensures) refl in
    rw (← c.self.view_is) (is_moved m slots _ _ (inside m) (done m slots) _ (is_poke m slots) _ _ m.state _ _ yes got may does c.answer-2.ensures.done c.answer-2.ensures.outer)
