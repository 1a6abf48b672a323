use Rattle.std.proofs.Common.{◌≡◌, length, true, false, Some, None, sym, ◌∙◌, ap}
use Rattle.std.specs.Prelude.{is_ok}
use Rattle.std.specs.FinMap as map
use Rattle.machine_state.specs.State.{register}
use Rattle.page_memory.proofs.Steps.{length-touched}
use Rattle.blob_codec.specs.Reading.{program_of}
use Rattle.inner_machines.specs.Calls.{place_for, new_inner}
use Rattle.inner_machines.proofs.Making.{named, allowed, range_barred, no_program, no_room, is_made}
use Rattle.inner_machines.proofs.nest.Nest.machine.Goals as goal

pub returns-then-not-allows-clause-leaves : goal.returns-then-not-allows-clause-leaves
returns-then-not-allows-clause-leaves c =
    let m = c.args.outer.now in
    let barred : allowed m ≡ false =
    rw (← c.register-at.ensures, ← c.register-len.ensures, ← c.memory.ensures) (sym c.allows.ensures.answer ∙ c.if-not-allows.true) in
    range_barred m c.args.self.now barred

pub returns-then-not-spells-clause-leaves : goal.returns-then-not-spells-clause-leaves
returns-then-not-spells-clause-leaves c =
    let m = c.args.outer.now in
    let allows : allowed m ≡ true =
    rw (← c.register-at.ensures, ← c.register-len.ensures, ← c.memory.ensures) (sym c.allows.ensures.answer ∙ c.if-not-allows.false) in
    let none : is_ok (program_of (named m)) ≡ false = rw (← c.register-at.ensures, ← c.register-len.ensures, ← c.memory-2.ensures) (sym c.spells.ensures ∙ c.if-not-spells.true) in
    no_program m c.args.self.now _ _ allows none c.answer.ensures.done c.answer.ensures.outer

pub returns-in_default-clause-leaves : goal.returns-in_default-clause-leaves
returns-in_default-clause-leaves c =
    let m = c.args.outer.now in
    let allows : allowed m ≡ true =
    rw (← c.register-at.ensures, ← c.register-len.ensures, ← c.memory.ensures) (sym c.allows.ensures.answer ∙ c.if-not-allows.false) in
    let some : is_ok (program_of (named m)) ≡ true = rw (← c.register-at.ensures, ← c.register-len.ensures, ← c.memory-2.ensures) (sym c.spells.ensures ∙ c.if-not-spells.false) in
    let taken : place_for c.args.self.now (register m.state 8) ≡ None = rw (← c.register-len.ensures) (sym c.place_for.ensures ∙ c.in_default.is) in
    no_room m c.args.self.now _ _ allows some taken c.answer-in_default.ensures.done c.answer-in_default.ensures.outer

pub place-requires-clause-room : goal.place-requires-clause-room
place-requires-clause-room c =
    let long : length c.in-Ok.bytes.items ≡ c.register-len.result = ap length c.in-Ok.ensures ∙ length-touched _ _ _ in
    rw long (sym c.place_for.ensures ∙ c.in-Some.is)

pub returns-in-Ok-place-clause-leaves : goal.returns-in-Ok-place-clause-leaves
returns-in-Ok-place-clause-leaves c =
    let m = c.args.outer.now in
    let allows : allowed m ≡ true =
    rw (← c.register-at.ensures, ← c.register-len.ensures, ← c.memory.ensures) (sym c.allows.ensures.answer ∙ c.if-not-allows.false) in
    let some : is_ok (program_of (named m)) ≡ true = rw (← c.register-at.ensures, ← c.register-len.ensures, ← c.memory-2.ensures) (sym c.spells.ensures ∙ c.if-not-spells.false) in
    let room : place_for c.args.self.now (register m.state 8) ≡ Some c.in-Some.number = rw (← c.register-len.ensures) (sym c.place_for.ensures ∙ c.in-Some.is) in
    let bytes : c.in-Ok.bytes.items ≡ named m = rw (← c.register-at.ensures, ← c.register-len.ensures, ← c.memory-3.ensures) c.in-Ok.ensures in
    let added : c.place.new.self ≡ map.insert c.args.self.now c.in-Some.number (new_inner (named m) (register m.state 9)) = rw (← bytes, ← c.register-counter.ensures) c.in-Ok-place.ensures.added in
    is_made m c.args.self.now _ c.place.new.self _ c.in-Some.number allows some room added c.answer-in-Ok-place.ensures.done c.answer-in-Ok-place.ensures.outer
