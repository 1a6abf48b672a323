-- What is known of input where no fault is present: the list of faults is empty, so each of its parts is, and so no rule
-- is broken.
use Rattle.std.proofs.Common.{◌≡◌, ◌<◌, ◌≤◌, ℕ, zero, suc, Bool, true, false, cond, List, [], ◌∷◌, ◌++◌, refl, arith, inl, inr}
use Rattle.std.proofs.Math.Nat.{eq-or-lt_of_le}
use Rattle.faults.specs.Present.{broken, each_below}

-- nor in the earlier phase
pub none-left : {F : Type 0} (xs ys : List F) → xs ++ ys ≡ [] → xs ≡ []
none-left [] ys e = refl
none-left (x ∷ xs) ys e = cc

-- nor in the later one
pub none-right : {F : Type 0} (xs ys : List F) → xs ++ ys ≡ [] → ys ≡ []
none-right [] ys e = e
none-right (x ∷ xs) ys e = cc

-- a rule that has no fault is kept
pub none-broken : {F : Type 0} (is : Bool) (fault : F) → broken is fault ≡ [] → is ≡ false
none-broken true fault e = cc
none-broken false fault e = refl

-- nor in a part that is looked at under a condition, where the condition holds
pub none-part : {F : Type 0} (is : Bool) (xs : List F) → cond is xs [] ≡ [] → is ≡ true → xs ≡ []
none-part true xs e h = e
none-part false xs e h = cc

-- nor at any number
pub none-each : {F : Type 0} (n i : ℕ) (at : ℕ → List F) → each_below n at ≡ [] → i < n → at i ≡ []
unfolding each_below
none-each zero i at e lt = absurd (omega arith)
none-each (suc n) i at e lt =
    let le : i ≤ n = omega arith in
    elim (eq-or-lt_of_le le) [
      | inl same ↦ rw same (none-right (each_below n at) (at n) e)
      | inr less ↦ none-each n i at (none-left (each_below n at) (at n) e) less
    ]
