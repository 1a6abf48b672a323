-- How the first fault changes with the numbers that are looked at: those that have none may be left out.
use Rattle.std.proofs.Common.{◌≡◌, ℕ, zero, suc, ◌+◌, ◌<◌, ◌≤◌, List, [], ◌∷◌, ◌++◌, map, Option, Some, None, refl, sym, ap, ◌∙◌, arith, add-one}
use Rattle.std.specs.Option.{option_map}
use Rattle.faults.specs.First.{◌or_else◌, first_below}
use Rattle.faults.specs.Present.{each_below, first_in}
use Rattle.faults.proofs.Firsts.{first_below-found}
use Rattle.faults.proofs.Heads.{first_in-each}

or_none : {F : Type 0} (x : Option F) → (x or_else None) ≡ x
or_none None = refl
or_none (Some x) = refl

-- none at any number
pub first_below-none : {F : Type 0} (n : ℕ) (f : ℕ → Option F) → ((i : ℕ) → i < n → f i ≡ None) → first_below n f ≡ None
first_below-none zero f none = refl
first_below-none (suc n) f none = ap (λ x. x or_else f n) (first_below-none n f (λ i lt. none i (omega arith))) ∙ none n (omega arith)

-- the same at each number
pub first_below-same : {F : Type 0} (n : ℕ) (f g : ℕ → Option F) → ((i : ℕ) → i < n → f i ≡ g i) → first_below n f ≡ first_below n g
first_below-same zero f g same = refl
first_below-same (suc n) f g same =
    ap (λ x. x or_else f n) (first_below-same n f g (λ i lt. same i (omega arith))) ∙ ap (λ x. first_below n g or_else x) (same n (omega arith))

-- numbers at the end that have none
pub first_below-gap : {F : Type 0} (d n : ℕ) (f : ℕ → Option F) → ((i : ℕ) → n ≤ i → i < n + d → f i ≡ None) → first_below (n + d) f ≡ first_below n f
first_below-gap zero n f none = let e : n + 0 ≡ n = omega arith in ap (λ k. first_below k f) e
first_below-gap (suc d) n f none =
    let e : n + suc d ≡ suc (n + d) = omega arith in
    ap (λ k. first_below k f) e
    ∙ ap (λ x. first_below (n + d) f or_else x) (none (n + d) (omega arith) (omega arith))
    ∙ or_none (first_below (n + d) f)
    ∙ first_below-gap d n f (λ i le lt. none i le (omega arith))

-- the first of mapped faults is the first, mapped
pub first_in-map : {F G : Type 0} (g : F → G) (xs : List F) → first_in (map g xs) ≡ option_map g (first_in xs)
first_in-map g [] = refl
first_in-map g (x ∷ xs) = refl

first_of : {F : Type 0} (n : ℕ) (at : ℕ → List F) → first_in (each_below n at) ≡ first_below n (λ i. first_in (at i))
first_of n at = first_in-each n at (λ i. first_in (at i)) (λ i. refl)

-- what is first at a number, where there was none before, is the first of all
pub first_in-found : {F : Type 0} (n i : ℕ) (at : ℕ → List F) (x : F) → i < n → each_below i at ≡ [] → first_in (at i) ≡ Some x → first_in (each_below n at) ≡ Some x
first_in-found n i at x lt before here =
    first_of n at ∙ first_below-found (λ k. first_in (at k)) n i x lt (sym (first_of i at) ∙ ap first_in before) here

-- none below n, nor at n
pub each_below-more : {F : Type 0} (n m : ℕ) (at : ℕ → List F) → m ≡ n + 1 → each_below n at ≡ [] → at n ≡ [] → each_below m at ≡ []
unfolding each_below
each_below-more n m at e before here = rw (e, add-one, before, here) refl

-- none below 0
pub each_below-zero : {F : Type 0} (at : ℕ → List F) → each_below 0 at ≡ []
unfolding each_below
each_below-zero at = refl
