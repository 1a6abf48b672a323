-- A machine that runs a program: its program and its state.
use Rattle.std.specs.Prelude.{◌≡◌, ◌⊎◌, ℕ, ◌-◌, ◌≤◌, ◌^◌, List, refl}
use Rattle.std.specs.Coded.{Coded, code_by, coded×, coded_ℕ, coded_list}
use Rattle.runs.specs.Machine.{At}
use Rattle.runs.specs.World.{World}
use Rattle.machine_state.specs.State.{State}
use Rattle.machine_state.specs.Codes.{state_code}
use Rattle.pvm_ops.specs.Listing.{Listing}

-- the program's jump table and code, the position of the next instruction, the state, and the gas that is left
pub record Machine : Type 0 where
  pub table : List ℕ
  pub code : Listing
  pub counter : ℕ
  pub state : State
  pub gas : ℕ

-- the machine's position and world, for its runs: its state, and what its host holds
abbrev pub run_state : {Held : Type 0} → Machine → Held → At ℕ (World State Held)
run_state m held = record { at = m.counter; of = record { state = m.state; held = held } }

-- what runs, beside its program: the position of the next instruction, the state, and the gas that is left
pub record Core : Type 0 where
  pub counter : ℕ
  pub state : State
  pub gas : ℕ

-- the machine that runs code with a jump table on a core
abbrev pub machine_on : List ℕ → Listing → Core → Machine
machine_on table code core = record { table = table; code = code; counter = core.counter; state = core.state; gas = core.gas }

-- The heap may grow only where no page of it is below 2^16 or above 2^32. Without a heap, which has the bound 0, it does
-- not matter where it ends.
abbrev pub HeapFits : State → Type 0
HeapFits s = (s.heap_bound ≡ 0) ⊎ ((2 ^ 16 ≤ s.heap_top) × (s.heap_bound ≤ 2 ^ 32 - 2 ^ 16))

abbrev pub core_code : Coded Core
core_code =
    code_by (ℕ × (State × ℕ))
    (coded× coded_ℕ (coded× state_code coded_ℕ))
    (λ c. (c.counter, (c.state, c.gas)))
    (λ p. record { counter = p.0; state = p.1.0; gas = p.1.1 })
    (λ _. refl)

-- a machine is stored as the tuple of its fields
abbrev pub listing_code : Coded Listing
listing_code = code_by (List ℕ × List ℕ) (coded× (coded_list coded_ℕ) (coded_list coded_ℕ)) (λ c. (c.bytes, c.mask)) (λ p. record { bytes = p.0; mask = p.1 }) (λ _. refl)

abbrev pub machine_code : Coded Machine
machine_code =
    code_by (List ℕ × (Listing × (ℕ × (State × ℕ))))
    (coded× (coded_list coded_ℕ) (coded× listing_code (coded× coded_ℕ (coded× state_code coded_ℕ))))
    (λ m. (m.table, (m.code, (m.counter, (m.state, m.gas)))))
    (λ p. record { table = p.0; code = p.1.0; counter = p.1.1.0; state = p.1.1.1.0; gas = p.1.1.1.1 })
    (λ _. refl)
