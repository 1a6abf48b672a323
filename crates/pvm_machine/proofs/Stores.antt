-- Stores as an instruction does them: their outcome lands as it is, and the sum of an address may have been taken modulo
-- 2^64.
use Rattle.std.proofs.Common.{◌≡◌, ℕ, ◌%◌, ◌^◌, Bool, refl, ap, sym, ◌∙◌, arith}
use Rattle.machine_state.specs.State.{State, with_memory}
use Rattle.page_memory.specs.Access as model
use Rattle.page_memory.specs.Outcomes.{stored_by, stores}
use Rattle.page_memory.proofs.Outcomes.{stores_by}
use Rattle.pvm_machine.specs.declared.instructions.Outcome.{Outcome}
use Rattle.pvm_machine.specs.Step.{land}
use Rattle.pvm_machine.specs.Outcomes.{outcome_of}

-- a store does not jump
pub store_lands : (starts : ℕ → Bool) (len address word : ℕ) (s : State) → land starts (stores len address word s) ≡ stores len address word s
store_lands starts len address word s = stores_by (λ o. land starts o ≡ o) len address word s (λ _. refl) (λ _. refl)

-- an address may have been taken modulo 2^64
pub same_address : (address : ℕ) → address % 2 ^ 64 % 2 ^ 32 ≡ address % 2 ^ 32
same_address address = omega arith

-- a store lands as it is
pub stores_do :
    (starts : ℕ → Bool) (len address word : ℕ) (s after : State) (reached : Outcome) → stores len (address % 2 ^ 64) word s ≡ outcome_of reached after
    → land starts (stores len address word s) ≡ outcome_of reached after
stores_do starts len address word s after reached does =
    let same : address % 2 ^ 32 ≡ address % 2 ^ 64 % 2 ^ 32 = sym (same_address address) in
    store_lands starts len address word s ∙ ap (λ (at : ℕ). stored_by (with_memory s (model.store s.memory at len word)) s (model.store_answer s.memory at len)) same ∙ does
