-- The bridge: the first of the faults that are present, part by part, is what code computes. The list and the
-- computation have to nest alike, as both operators do, which group to the right.
use Rattle.std.proofs.Common.{◌≡◌, ℕ, zero, suc, Bool, true, false, cond, List, [], ◌∷◌, ◌++◌, Option, None, refl, ◌∙◌}
use Rattle.faults.specs.First.{◌or_else◌, where_true, first_below}
use Rattle.faults.specs.Present.{broken, each_below, first_in}

-- of two phases
pub first_in-append : {F : Type 0} (xs ys : List F) → first_in (xs ++ ys) ≡ (first_in xs or_else first_in ys)
first_in-append [] ys = refl
first_in-append (x ∷ xs) ys = refl

-- of one rule
pub first_in-broken : {F : Type 0} (is : Bool) (fault : F) → first_in (broken is fault) ≡ where_true is fault
first_in-broken true fault = refl
first_in-broken false fault = refl

-- of things that are checked alike
pub first_in-each : {F : Type 0} (n : ℕ) (at : ℕ → List F) (f : ℕ → Option F) → ((i : ℕ) → first_in (at i) ≡ f i) → first_in (each_below n at) ≡ first_below n f
unfolding each_below
first_in-each zero at f same = refl
first_in-each (suc n) at f same = first_in-append (each_below n at) (at n) ∙ rw (first_in-each n at f same, same n) refl

-- where there is no first, there is none
pub none_in : {F : Type 0} (xs : List F) → first_in xs ≡ None → xs ≡ []
none_in [] e = refl
none_in (x ∷ xs) e = cc

-- of a part that is looked at under a condition
pub first_in-cond : {F : Type 0} (is : Bool) (xs : List F) → first_in (cond is xs []) ≡ cond is (first_in xs) None
first_in-cond true xs = refl
first_in-cond false xs = refl
