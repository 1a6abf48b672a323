-- How a loop that counts up finds the first fault: as long as it has found none there is none below its counter, and what
-- it finds then is the first of all. The last two lemmas have the form in which such a loop returns it.
use Rattle.std.proofs.Common.{◌≡◌, inl, inr, ℕ, zero, suc, ◌+◌, ◌<◌, ◌≤◌, Bool, true, false, Option, Some, None, refl, sym, arith, add-one}
use Rattle.std.proofs.Math.Nat.{eq-or-lt_of_le}
use Rattle.faults.specs.First.{where_true, first_below, least_below}

-- nothing is found below n, nor at n
pub first_below-more : {F : Type 0} (f : ℕ → Option F) (n m : ℕ) → m ≡ n + 1 → first_below n f ≡ None → f n ≡ None → first_below m f ≡ None
first_below-more f n m e before here = rw (e, add-one, before, here) refl

-- what is found first at i is the first below any n above i
pub first_below-found : {F : Type 0} (f : ℕ → Option F) (n i : ℕ) (x : F) → i < n → first_below i f ≡ None → f i ≡ Some x → first_below n f ≡ Some x
first_below-found f zero i x lt before here = absurd (omega arith)
first_below-found f (suc n) i x lt before here =
    let le : i ≤ n = omega arith in
    elim (eq-or-lt_of_le le) [ inl same ↦ rw (← same, before, here) refl | inr less ↦ rw (first_below-found f n i x less before here) refl ]

-- the same for the least number that passes a test
pub least_below-more : (test : ℕ → Bool) (n m : ℕ) → m ≡ n + 1 → least_below n test ≡ None → test n ≡ false → least_below m test ≡ None
unfolding least_below
least_below-more test n m e before here = first_below-more (λ i. where_true (test i) i) n m e before (rw here refl)

-- the test that is passed first is passed at the least number
pub least_below-found : (test : ℕ → Bool) (n i : ℕ) → i < n → least_below i test ≡ None → test i ≡ true → least_below n test ≡ Some i
unfolding least_below
least_below-found test n i lt before here = first_below-found (λ k. where_true (test k) k) n i i lt before (rw here refl)

-- below 0 there is none
pub least_below-zero : (test : ℕ → Bool) → least_below 0 test ≡ None
unfolding least_below
least_below-zero test = refl

-- the same for the first fault of a loop that looks at one test
pub faults_below-found : {F : Type 0} (test : ℕ → Bool) (fault : ℕ → F) (n i : ℕ) → i < n → first_below i (λ k. where_true (test k) (fault k)) ≡ None → test i ≡ true → first_below n (λ k. where_true (test k) (fault k)) ≡ Some (fault i)
faults_below-found test fault n i lt before here = first_below-found (λ k. where_true (test k) (fault k)) n i (fault i) lt before (rw here refl)

-- what a loop over a test finds first, as the loop returns it
pub found_fault : {F : Type 0} (test : ℕ → Bool) (fault : ℕ → F) (n i : ℕ) → i < n → first_below i (λ k. where_true (test k) (fault k)) ≡ None → test i ≡ true → Some (fault i) ≡ first_below n (λ k. where_true (test k) (fault k))
found_fault test fault n i lt before here = sym (faults_below-found test fault n i lt before here)

-- the same for a loop that asks a rule and returns its fault
pub found_first : {F : Type 0} (f : ℕ → Option F) (n i : ℕ) (x : F) → i < n → first_below i f ≡ None → Some x ≡ f i → Some x ≡ first_below n f
found_first f n i x lt before here = sym (first_below-found f n i x lt before (sym here))
