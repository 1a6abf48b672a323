use Rattle.std.proofs.Common.{◌≡◌, ℕ, List, ◌+◌, ◌-◌, ap, refl, subst, sym, arith, ◌∙◌}
use Rattle.pvm_ops.specs.Fetch.{fetch_of}
use Rattle.pvm_machine.specs.Outcomes.{with_parts}
use Rattle.pvm_machine.specs.Stepped.{stepped}
use Rattle.pvm_machine.specs.declared.instructions.Outcome.TheVariants.{Next, Jump, Halt, Panic, Fault, Call, Sbrk}
use Rattle.pvm_machine.specs.Machine.{Core, Machine, machine_on}
use Rattle.pvm_machine.specs.Stepped.{MapsPages}
use Rattle.pvm_machine.proofs.Kept.{step_keeps}
use Rattle.pvm_machine.proofs.Growing.{state_in, core_in, with_state, grown_costs, grown_goes}
use Rattle.machine_state.specs.State.{with_register}
use Rattle.machine_state.specs.Heap.{sbrk}
use Rattle.pvm_machine.proofs.Steps.{fetched_step, no_step}
use Rattle.pvm_machine.specs.declared.answers.Step.TheVariants as answer
use Rattle.machine_state.specs.Memory.{Memory}
use Rattle.pvm_machine.proofs.cores.Core.step.Goals as goal

pub returns-then-self-eq0-clause-step : goal.returns-then-self-eq0-clause-step
returns-then-self-eq0-clause-step c = rw (← c.self.view_is) (sym (no_step _ c.if-self-eq0.true))

pub returns-in-Next-clause-step : goal.returns-in-Next-clause-step
returns-in-Next-clause-step c =
    rw c.act_at-outcome.ensures.next (sym (fetched_step _ (fetch_of c.args.code.now c.self.inside.counter) _ Next (with_parts (state_in c.self.inside) c.act_at-outcome.new.registers c.act_at-outcome.new.memory) c.in-Next.is c.if-self-eq0.false refl (c.act_at-outcome.ensures.does (state_in c.self.inside))) ∙ ap (λ (core : Core). stepped (machine_on c.args.program.now.table c.args.code.now core)) c.self.view_is)

pub returns-in-Jump-clause-step : goal.returns-in-Jump-clause-step
returns-in-Jump-clause-step c =
    sym (fetched_step _ (fetch_of c.args.code.now c.self.inside.counter) _ (Jump c.in-Jump.target) (with_parts (state_in c.self.inside) c.act_at-outcome.new.registers c.act_at-outcome.new.memory) c.in-Jump.is c.if-self-eq0.false refl (c.act_at-outcome.ensures.does (state_in c.self.inside))) ∙ ap (λ (core : Core). stepped (machine_on c.args.program.now.table c.args.code.now core)) c.self.view_is

pub returns-in-Halt-clause-step : goal.returns-in-Halt-clause-step
returns-in-Halt-clause-step c =
    sym (fetched_step _ (fetch_of c.args.code.now c.self.inside.counter) _ Halt (with_parts (state_in c.self.inside) c.act_at-outcome.new.registers c.act_at-outcome.new.memory) c.in-Halt.is c.if-self-eq0.false refl (c.act_at-outcome.ensures.does (state_in c.self.inside))) ∙ ap (λ (core : Core). stepped (machine_on c.args.program.now.table c.args.code.now core)) c.self.view_is

pub returns-in-Panic-clause-step : goal.returns-in-Panic-clause-step
returns-in-Panic-clause-step c =
    let registers = rw c.in-Panic.is at c.act_at-outcome.ensures.registers in
    let memory = rw c.in-Panic.is at c.act_at-outcome.ensures.memory in
    rw (registers, memory)
    (sym (fetched_step _ (fetch_of c.args.code.now c.self.inside.counter) _ Panic (with_parts (state_in c.self.inside) c.act_at-outcome.new.registers c.act_at-outcome.new.memory) c.in-Panic.is c.if-self-eq0.false refl (c.act_at-outcome.ensures.does (state_in c.self.inside))) ∙ ap (λ (core : Core). stepped (machine_on c.args.program.now.table c.args.code.now core)) c.self.view_is)

pub returns-in-Fault-clause-step : goal.returns-in-Fault-clause-step
returns-in-Fault-clause-step c =
    let registers = rw c.in-Fault.is at c.act_at-outcome.ensures.registers in
    let memory = rw c.in-Fault.is at c.act_at-outcome.ensures.memory in
    rw (registers, memory)
    (sym (fetched_step _ (fetch_of c.args.code.now c.self.inside.counter) _ (Fault c.in-Fault.page) (with_parts (state_in c.self.inside) c.act_at-outcome.new.registers c.act_at-outcome.new.memory) c.in-Fault.is c.if-self-eq0.false refl (c.act_at-outcome.ensures.does (state_in c.self.inside))) ∙ ap (λ (core : Core). stepped (machine_on c.args.program.now.table c.args.code.now core)) c.self.view_is)

pub returns-in-Call-clause-step : goal.returns-in-Call-clause-step
returns-in-Call-clause-step c =
    rw c.act_at-outcome.ensures.next (sym (fetched_step _ (fetch_of c.args.code.now c.self.inside.counter) _ (Call c.in-Call.number) (with_parts (state_in c.self.inside) c.act_at-outcome.new.registers c.act_at-outcome.new.memory) c.in-Call.is c.if-self-eq0.false refl (c.act_at-outcome.ensures.does (state_in c.self.inside))) ∙ ap (λ (core : Core). stepped (machine_on c.args.program.now.table c.args.code.now core)) c.self.view_is)

-- the core with the parts that an instruction left
abbrev acted : (m : Core) (registers : List ℕ) (memory : Memory) → Core
acted m registers memory = record m { state = with_parts m.state registers memory; gas = m.gas - 1 }

pub returns-in-Ok-clause-step : goal.returns-in-Ok-clause-step
returns-in-Ok-clause-step c =
    let old : Core = core_in c.self.inside in
    let m : Core = acted old c.act_at-outcome.new.registers c.act_at-outcome.new.memory in
    let n : Core = core_in c.self-in-Sbrk.inside in
    let Grown : Core → Type 0 = λ x. with_state m (sbrk m.state c.in-Sbrk.register c.in-Sbrk.size) ≡ with_state x (with_register x.state c.in-Sbrk.register c.in-Ok.value) in
    let grown : Grown n = subst Grown (sym c.self-in-Sbrk.view_is) (c.in-Ok.ensures.ok c.in-Sbrk.register) in
    let does = fetched_step (machine_on c.args.program.now.table c.args.code.now old) (fetch_of c.args.code.now c.self.inside.counter) _ (Sbrk c.in-Sbrk.register c.in-Sbrk.size) m.state c.in-Sbrk.is c.if-self-eq0.false refl (c.act_at-outcome.ensures.does (state_in c.self.inside)) in
    rw (c.from.ensures, c.act_at-outcome.ensures.next)
    (ap (λ (x : Machine). record { machine = x; answer = answer.Next }) (grown_goes m n c.in-Sbrk.register c.in-Sbrk.size c.in-Ok.value grown c.args.program.now.table c.args.code.now (fetch_of c.args.code.now c.self.inside.counter).next) ∙ sym does ∙ ap (λ (core : Core). stepped (machine_on c.args.program.now.table c.args.code.now core)) c.self.view_is)

pub returns-in-Ok-clause-costs : goal.returns-in-Ok-clause-costs
returns-in-Ok-clause-costs c =
    let old : Core = core_in c.self.inside in
    let m : Core = acted old c.act_at-outcome.new.registers c.act_at-outcome.new.memory in
    let n : Core = core_in c.self-in-Sbrk.inside in
    let Grown : Core → Type 0 = λ x. with_state m (sbrk m.state c.in-Sbrk.register c.in-Sbrk.size) ≡ with_state x (with_register x.state c.in-Sbrk.register c.in-Ok.value) in
    let grown : Grown n = subst Grown (sym c.self-in-Sbrk.view_is) (c.in-Ok.ensures.ok c.in-Sbrk.register) in
    let costs = grown_costs m n c.in-Sbrk.register c.in-Sbrk.size c.in-Ok.value grown in
    rw (← c.self.view_is) (omega (arith, costs, c.if-self-eq0.false))

pub returns-in-Err-clause-step : goal.returns-in-Err-clause-step
returns-in-Err-clause-step c =
    let old : Core = core_in c.self.inside in
    let m : Core = acted old c.act_at-outcome.new.registers c.act_at-outcome.new.memory in
    let n : Core = core_in c.self-in-Sbrk.inside in
    let same : n ≡ m = c.self-in-Sbrk.view_is ∙ c.in-Err.ensures.err in
    let registers = rw c.in-Sbrk.is at c.act_at-outcome.ensures.registers in
    let memory = rw c.in-Sbrk.is at c.act_at-outcome.ensures.memory in
    let gas : c.self.inside.gas - 1 + 1 ≡ c.self.inside.gas = omega (arith, c.if-self-eq0.false) in
    let back : record m { gas = m.gas + 1 } ≡ old = rw (registers.1, memory.1) (ap (λ (g : ℕ). record old { gas = g }) gas) in
    let does = fetched_step (machine_on c.args.program.now.table c.args.code.now old) (fetch_of c.args.code.now c.self.inside.counter) _ (Sbrk c.in-Sbrk.register c.in-Sbrk.size) m.state c.in-Sbrk.is c.if-self-eq0.false refl (c.act_at-outcome.ensures.does (state_in c.self.inside)) in
    let maps : MapsPages (machine_on c.args.program.now.table c.args.code.now old) = rw does (c.in-Err.ensures.maps c.in-Sbrk.register) in
    (ap (λ (x : Core). machine_on c.args.program.now.table c.args.code.now x) (ap (λ (x : Core). record x { gas = x.gas + 1 }) same ∙ back ∙ c.self.view_is), rw (← c.self.view_is) maps)

pub returns-in-Err-clause-costs : goal.returns-in-Err-clause-costs
returns-in-Err-clause-costs c =
    let same : c.self-in-Sbrk.inside.gas ≡ c.self.inside.gas - 1 = ap (λ (x : Core). x.gas) (c.self-in-Sbrk.view_is ∙ c.in-Err.ensures.err) in
    rw (← c.self.view_is) (omega (arith, same, c.if-self-eq0.false))

pub returns-in-Next-clause-keeps : goal.returns-in-Next-clause-keeps
returns-in-Next-clause-keeps c = step_keeps c.stores_keep_pages.ensures _ _ answer.Next (returns-in-Next-clause-step c)

pub returns-in-Jump-clause-keeps : goal.returns-in-Jump-clause-keeps
returns-in-Jump-clause-keeps c = step_keeps c.stores_keep_pages.ensures _ _ answer.Next (returns-in-Jump-clause-step c)

pub returns-in-Halt-clause-keeps : goal.returns-in-Halt-clause-keeps
returns-in-Halt-clause-keeps c = step_keeps c.stores_keep_pages.ensures _ _ answer.Halt (returns-in-Halt-clause-step c)

pub returns-in-Call-clause-keeps : goal.returns-in-Call-clause-keeps
returns-in-Call-clause-keeps c = step_keeps c.stores_keep_pages.ensures _ _ (answer.Host c.in-Call.number) (returns-in-Call-clause-step c)

pub returns-in-Ok-clause-keeps : goal.returns-in-Ok-clause-keeps
returns-in-Ok-clause-keeps c = step_keeps c.stores_keep_pages.ensures _ _ answer.Next (returns-in-Ok-clause-step c)
