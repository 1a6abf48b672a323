use Rattle.std.proofs.Common.{◌≡◌, ◌+◌, ◌-◌, ◌≤◌, ◌∷◌, true, false, ap, sym, ◌∙◌, refl, arith}
use Rattle.std.specs.Prelude.{Some, None}
use Rattle.std.specs.Option.{option_copied}
use Rattle.std.specs.FinMap as map
use Rattle.machine_state.specs.State.{register, with_memory}
use Rattle.pvm_machine.specs.Stepped.{Stepped}
use Rattle.inner_machines.specs.Views.{Works}
use Rattle.page_memory.specs.Ranges.{range_allows}
use Rattle.inner_machines.specs.Calls.{invoke_call, who, word_at, words_at, worked, with_words, with_worked, reported_by, nested}
use Rattle.inner_machines.proofs.Free.{free_part, reads_too}
use Rattle.inner_machines.proofs.Leaving.{leaves, ran_leaves, ran_out}
use Rattle.inner_machines.proofs.nest.Nest.invoke.Goals as goal

pub returns-then-not-allows-clause-leaves : goal.returns-then-not-allows-clause-leaves
unfolding invoke_call
returns-then-not-allows-clause-leaves c =
    let no : range_allows c.args.outer.now.state.memory true c.register-at.result 112 ≡ false = rw (← c.memory.ensures) (sym c.allows.ensures.answer ∙ c.if-not-allows.true) in
    rw (← c.register-at.ensures, no) refl

pub returns-in_default-clause-leaves : goal.returns-in_default-clause-leaves
unfolding invoke_call
returns-in_default-clause-leaves c =
    let yes : range_allows c.args.outer.now.state.memory true c.register-at.result 112 ≡ true = rw (← c.memory.ensures) (sym c.allows.ensures.answer ∙ c.if-not-allows.false) in
    let none : map.get c.self.inside.slots c.register-number.result ≡ None = sym c.find.ensures.value ∙ ap option_copied c.in_default.is in
    let got : map.get c.args.self.now c.register-number.result ≡ None = rw (← c.self.view_is) none in
    rw (c.answer.ensures.done, ← c.register-at.ensures, yes, ← c.register-number.ensures, got) (leaves c.args.outer.now _ c.args.self.now c.args.self.now c.args.outer.now.state who c.answer.ensures.outer)

pub word-gas-requires : goal.word-gas-requires
word-gas-requires c =
    let free = (c.allows.ensures.free c.if-not-allows.false) (omega arith) in
    let same : c.register-at.result + 0 ≡ c.register-at.result = omega arith in
    rw (c.memory-2.ensures, ← c.memory.ensures) (rw same at (free_part c.memory.result.now c.memory.result.now true false c.register-at.result 112 0 8 free.0 (omega arith) (λ q h. reads_too _ h) free.1))

pub returns-then-gas-clause-leaves : goal.returns-then-gas-clause-leaves
unfolding invoke_call
returns-then-gas-clause-leaves c =
    let yes : range_allows c.args.outer.now.state.memory true c.register-at.result 112 ≡ true = rw (← c.memory.ensures) (sym c.allows.ensures.answer ∙ c.if-not-allows.false) in
    let got : map.get c.args.self.now c.register-number.result ≡ Some c.in-Some._inner.now = rw (← c.self.view_is) (sym c.in-Some.ensures.value) in
    let word : word_at c.args.outer.now.state.memory (register c.args.outer.now.state 8) ≡ c.word-gas.result = rw (← c.register-at.ensures, ← c.memory-2.ensures) (sym c.word-gas.ensures) in
    rw (← c.register-at.ensures, yes, ← c.register-number.ensures, got, word) (ran_out c.args.outer.now c.args.self.now c.in-Some._inner.now c.word-gas.result (worked c.in-Some._inner.now (words_at c.args.outer.now.state.memory (register c.args.outer.now.state 8 + 8) 13) c.word-gas.result) (omega (arith, c.if-gas.true, c.gas.ensures)))

module _ (c : goal.After-set_frame_limit) where
  got : map.get c.args.self.now c.register-number.result ≡ Some c.in-Some._inner.now
  got = rw (← c.self.view_is) (sym c.in-Some.ensures.value)

  abbrev after : Stepped
  after = worked c.in-Some._inner.now (words_at c.args.outer.now.state.memory (register c.args.outer.now.state 8 + 8) 13) c.word-gas.result

  works : Works c.in-Some._inner.now c.args.outer.now.state.memory (register c.args.outer.now.state 8) c.word-gas.result c.work-exit.new.outer c.work-exit.result.0 c.work-exit.result.1
  works = rw (← c.register-at.ensures, ← c.memory_mut.ensures.memory) (c.work-exit.ensures.worked c.in-Some._inner.now got)

  inners : c.work-exit.new.self ≡ with_worked c.args.self.now (register c.args.outer.now.state 7) c.in-Some._inner.now after
  inners = rw (← c.register-number.ensures, ← c.register-at.ensures, ← c.memory_mut.ensures.memory) (c.work-exit.ensures.inners c.in-Some._inner.now got)

  outer_is : c.set_frame_limit.new.self ≡ record c.args.outer.now {
    state = (nested (with_memory c.args.outer.now.state (with_words c.args.outer.now.state.memory (register c.args.outer.now.state 8) (after.machine.gas ∷ after.machine.state.registers))) (reported_by c.args.outer.now.state.registers after.answer) (with_worked c.args.self.now (register c.args.outer.now.state 7) c.in-Some._inner.now after)).state;
    gas = c.args.outer.now.gas - (c.word-gas.result - c.work-exit.result.1);
  }
  outer_is = rw (c.set_frame_limit.ensures, c.report.ensures, c.spend.ensures, c.frames.ensures.value, works.0, ← works.2, ← inners) refl

pub returns-clause-leaves : goal.returns-clause-leaves
unfolding invoke_call
returns-clause-leaves c =
    let yes : range_allows c.args.outer.now.state.memory true c.register-at.result 112 ≡ true = rw (← c.memory.ensures) (sym c.allows.ensures.answer ∙ c.if-not-allows.false) in
    let word : word_at c.args.outer.now.state.memory (register c.args.outer.now.state 8) ≡ c.word-gas.result = rw (← c.register-at.ensures, ← c.memory-2.ensures) (sym c.word-gas.ensures) in
    let enough : c.word-gas.result ≤ c.args.outer.now.gas = omega (arith, c.if-gas.false, c.gas.ensures) in
    rw (← c.register-at.ensures, yes, ← c.register-number.ensures, got c, word, inners c)
    (ran_leaves c.args.outer.now _ c.args.self.now c.in-Some._inner.now c.word-gas.result c.work-exit.result.1 (after c) (works c).1 c.work-exit.ensures.less enough (outer_is c))
