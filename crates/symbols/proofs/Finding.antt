-- The first fault of a list of faults, as a loop that counts up finds it.
use Rattle.std.proofs.Common.{◌≡◌, ℕ, ◌<◌, List, Some, None, refl, sym, ◌∙◌}
use Rattle.faults.specs.First.{first_below}
use Rattle.faults.specs.Present.{each_below, first_in}
use Rattle.faults.proofs.Firsts.{found_first}
use Rattle.faults.proofs.Heads.{first_in-each}

-- what a loop finds first is the first of all
pub found_in : {F : Type 0} (at : ℕ → List F) (n i : ℕ) (fault : F) → i < n → first_below i (λ k. first_in (at k)) ≡ None → Some fault ≡ first_in (at i) → Some fault ≡ first_in (each_below n at)
found_in at n i fault lt before here = found_first (λ k. first_in (at k)) n i fault lt before here ∙ sym (first_in-each n at (λ k. first_in (at k)) (λ k. refl))

-- and where it finds none there is none
pub none_found : {F : Type 0} (at : ℕ → List F) (n : ℕ) → first_below n (λ k. first_in (at k)) ≡ None → None ≡ first_in (each_below n at)
none_found at n none = sym (first_in-each n at (λ k. first_in (at k)) (λ k. refl) ∙ none)
