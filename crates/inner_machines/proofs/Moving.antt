-- The cases of calls that copy bytes between the memory of the machine that calls and that of an inner one.
use Rattle.std.proofs.Common.{◌≡◌, Bool, true, false, refl, slice_set}
use Rattle.std.specs.Prelude.{Option, Some, None, if◌then◌else◌}
use Rattle.machine_state.specs.State.{State}
use Rattle.machine_state.specs.Ends.{Answer}
use Rattle.pvm_machine.specs.Machine.{Machine}
use Rattle.inner_machines.specs.Inner.{Inner, Inners}
use Rattle.inner_machines.specs.Calls.{answers, panics, nested, ok, oob, who}
use Rattle.inner_machines.specs.Served.{Leaves, under_gas}
use Rattle.inner_machines.specs.declared.answer.Served.{Served}
use Rattle.inner_machines.specs.declared.answer.Served.TheVariants.{Done, Panic}
use Rattle.inner_machines.proofs.Leaving.{answered}

-- The outer range is allowed or not, there is an inner machine or none, and the range in that is allowed or not.
module _ (m : Machine) (inners : Inners) (outside : Bool) (found : Option Inner) (inside : Inner → Bool) (done : Inner → Answer Inners) where
  abbrev pub moved_in : Option Inner → Answer Inners
  moved_in None = answers who m.state inners
  moved_in (Some inner) = if inside inner then done inner else answers oob m.state inners

  abbrev pub moved : Answer Inners
  moved = if outside then moved_in found else panics m.state

  module _ (call : Answer Inners) (is : call ≡ moved) where
    pub barred_outside : outside ≡ false → Leaves (under_gas m inners call) m inners m inners Panic
    barred_outside barred = rw (is, barred) refl

    pub not_found :
        (m' : Machine) (how : Served) → outside ≡ true → found ≡ None → how ≡ Done → m' ≡ record m { state = (nested m.state (slice_set m.state.registers 7 who) inners).state }
        → Leaves (under_gas m inners call) m inners m' inners how
    not_found m' how allows none is_done left = rw (is, allows, none) (answered m m' inners inners m.state who how is_done left)

    pub barred_inside :
        (m' : Machine) (how : Served) (inner : Inner) → outside ≡ true → found ≡ Some inner → inside inner ≡ false → how ≡ Done
        → m' ≡ record m { state = (nested m.state (slice_set m.state.registers 7 oob) inners).state } → Leaves (under_gas m inners call) m inners m' inners how
    barred_inside m' how inner allows got barred is_done left = rw (is, allows, got, barred) (answered m m' inners inners m.state oob how is_done left)

    pub is_moved :
        (m' : Machine) (inners' : Inners) (s : State) (how : Served) (inner : Inner) → outside ≡ true → found ≡ Some inner → inside inner ≡ true → done inner ≡ answers ok s inners' → how ≡ Done
        → m' ≡ record m { state = (nested s (slice_set s.registers 7 ok) inners').state } → Leaves (under_gas m inners call) m inners m' inners' how
    is_moved m' inners' s how inner allows got may does is_done left = rw (is, allows, got, may, does) (answered m m' inners inners' s ok how is_done left)
