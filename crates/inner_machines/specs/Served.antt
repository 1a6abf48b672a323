-- The result of a call on inner machines under gas.
use Rattle.std.specs.Prelude.{◌≡◌, ◌⊎◌, ℕ, ◌+◌, ◌-◌, true, false, is_ok, is_some, nat_le, if◌then◌else◌}
use Rattle.machine_state.specs.Ends.{Answer, Answered, Ended}
use Rattle.machine_state.specs.State.{State, register}
use Rattle.page_memory.specs.Access.{touched}
use Rattle.page_memory.specs.Ranges.{range_allows}
use Rattle.blob_codec.specs.Reading.{program_of}
use Rattle.pvm_machine.specs.Machine.{Machine}
use Rattle.inner_machines.specs.Inner.{Inners}
use Rattle.inner_machines.specs.Calls.{is_nest_call, nest_call, place_for}
use Rattle.inner_machines.specs.declared.answer.Served.{Served}
use Rattle.inner_machines.specs.declared.answer.Served.TheVariants as served

-- the calling machine and the inner machines after a call, and the answer
pub record Left : Type 0 where
  pub outer : Machine
  pub inners : Inners
  pub answer : Served

-- nothing changed
abbrev pub stayed : Machine → Inners → Served → Left
stayed m inners answer = record { outer = m; inners = inners; answer = answer }

-- A call that asks for more gas for an inner machine than the calling one has changes nothing; else that pays what the
-- inner machine spent.
abbrev pub under_gas : Machine → Inners → Answer Inners → Left
under_gas m inners (Answered spent rest next) =
    if nat_le (spent + rest) m.gas then record { outer = record m { state = next.state; gas = m.gas - spent }; inners = next.held; answer = served.Done }
    else stayed m inners served.OutOfGas
under_gas m inners (Ended end) = stayed m inners served.Panic

-- what a call with a number leaves, and answers
abbrev pub left_by : ℕ → Machine → Inners → Left
left_by number m inners =
    if is_nest_call number then under_gas m inners (nest_call number (record { state = m.state; held = inners })) else stayed m inners served.NotMine

-- if an allocation failed nothing changed; else the call left what is defined
abbrev pub Leaves : Left → Machine → Inners → Machine → Inners → Served → Type 0
Leaves left m inners m' inners' served.Memory = (m' ≡ m) × (inners' ≡ inners)
Leaves left m inners m' inners' how = record { outer = m'; inners = inners'; answer = how } ≡ left

-- the calls that allocate: `machine` and `pages`
abbrev pub MayRunOut : ℕ → Type 0
MayRunOut number = (number ≡ 8) ⊎ (number ≡ 11)

-- the call `machine` makes one: its range may be read and spells a program, and there is room for it
pub record MakesMachine (s : State) (inners : Inners) : Type 0 where
  pub allowed : range_allows s.memory false (register s 7) (register s 8) ≡ true
  pub spelled : is_ok (program_of (touched s.memory (register s 7) (register s 8))) ≡ true
  pub room : is_some (place_for inners (register s 8)) ≡ true
