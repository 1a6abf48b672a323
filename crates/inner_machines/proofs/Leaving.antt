-- What calls leave that go on, and take no gas.
use Rattle.std.proofs.Common.{◌≡◌, ℕ, ◌+◌, ◌-◌, ◌<◌, ◌≤◌, ◌∷◌, true, false, refl, ap, sym, arith, slice_set}
use Rattle.std.specs.Prelude.{nat_le}
use Rattle.std.proofs.lemmas.Bool.Decides.{nat_tests}
use Rattle.machine_state.specs.State.{State, register, with_memory}
use Rattle.pvm_machine.specs.Stepped.{Stepped}
use Rattle.pvm_machine.specs.Machine.{Machine}
use Rattle.inner_machines.specs.Inner.{Inner, Inners}
use Rattle.inner_machines.specs.Calls.{nested, answers, ran, reported_by, with_words, with_worked}
use Rattle.inner_machines.specs.Served.{Leaves, under_gas}
use Rattle.inner_machines.specs.declared.answer.Served.{Served}
use Rattle.inner_machines.specs.declared.answer.Served.TheVariants.{Done, OutOfGas}

-- the machine that called, with its result, and the inner machines
pub leaves :
    (m m' : Machine) (inners inners' : Inners) (s : State) (word : ℕ) → m' ≡ record m { state = (nested s (slice_set s.registers 7 word) inners').state }
    → record { outer = m'; inners = inners'; answer = Done } ≡ under_gas m inners (answers word s inners')
leaves m m' inners inners' s word is =
    let test : nat_le 0 m.gas ≡ true = grind (arith, nat_tests) in
    let left : m.gas - 0 ≡ m.gas = omega arith in
    rw (test, left, is) refl

-- so does a call that was served
pub answered :
    (m m' : Machine) (inners inners' : Inners) (s : State) (word : ℕ) (how : Served) → how ≡ Done → m' ≡ record m { state = (nested s (slice_set s.registers 7 word) inners').state }
    → Leaves (under_gas m inners (answers word s inners')) m inners m' inners' how
answered m m' inners inners' s word how is left = rw is (leaves m m' inners inners' s word left)

-- an inner machine that worked with gas that the calling one has
pub ran_leaves :
    (m m' : Machine) (inners : Inners) (inner : Inner) (gas left : ℕ) (r : Stepped) → r.machine.gas ≡ left → left ≤ gas → gas ≤ m.gas
    → m' ≡ record m { state = (nested (with_memory m.state (with_words m.state.memory (register m.state 8) (r.machine.gas ∷ r.machine.state.registers))) (reported_by m.state.registers r.answer) (with_worked inners (register m.state 7) inner r)).state; gas = m.gas - (gas - left) }
    → record { outer = m'; inners = with_worked inners (register m.state 7) inner r; answer = Done } ≡ under_gas m inners (ran m.state inners inner gas r)
ran_leaves m m' inners inner gas left r left_is less enough is =
    let test : nat_le (gas - r.machine.gas + r.machine.gas) m.gas ≡ true = grind (arith, nat_tests, left_is, less, enough) in
    let spent : gas - left ≡ gas - r.machine.gas = ap (λ (n : ℕ). gas - n) (sym left_is) in
    rw (test, is, spent) refl

-- one that would be given more
pub ran_out : (m : Machine) (inners : Inners) (inner : Inner) (gas : ℕ) (r : Stepped) → m.gas < gas → record { outer = m; inners = inners; answer = OutOfGas } ≡ under_gas m inners (ran m.state inners inner gas r)
ran_out m inners inner gas r more =
    let test : nat_le (gas - r.machine.gas + r.machine.gas) m.gas ≡ false = grind (arith, nat_tests, more) in
    rw test refl
