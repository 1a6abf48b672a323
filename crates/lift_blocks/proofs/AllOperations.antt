-- The operations at all places.
use Rattle.std.proofs.Common.{◌≡◌, ⊎_elim, subst, ℕ, zero, suc, ◌+◌, ◌<◌, ◌≤◌, Option, Bool, true, false, cond, List, [], ◌∷◌, length, Some, refl, sym, ap, ◌∙◌, arith}
use Rattle.std.specs.Prelude.{slice_get, ◌||◌, IsSomeAnd}
use Rattle.std.proofs.lemmas.Bool.{cases_lt}
use Rattle.std.proofs.lemmas.Option.{slice_get_within}
use Rattle.std.specs.List.{filter}
use Rattle.symbols.specs.declared.wanted.ImportKind.{ImportKind}
use Rattle.symbols.specs.Wanted.{Given, Import, IsHostNumber}
use Rattle.relocs.specs.AddressMap.{needed_places, named_places}
use Rattle.relocs.specs.Pairs.{all_places}
use Rattle.relocs.specs.Places.{CodePlace, has, same_place}
use Rattle.lift_blocks.proofs.Order.{place_self}

or_true : (b : Bool) → (b || true) ≡ true
or_true true = refl
or_true false = refl

-- a listed place is there
pub has_at : (places : List CodePlace) (i : ℕ) (p : CodePlace) → slice_get places i ≡ Some p → has places p ≡ true
has_at [] i p e = absurd cc
has_at (q ∷ places) zero p e =
    let same : q ≡ p = cc in
    rw (same, place_self p) refl
has_at (q ∷ places) (suc i) p e = rw (has_at places i p e) (or_true (same_place p q))

length_filter : {X : Type 0} (test : X → Bool) (xs : List X) → length (filter test xs) ≤ length xs
length_filter test [] = omega arith
length_filter test (x ∷ xs) = by_test (test x) (length_filter test xs)
  where
    by_test : (b : Bool) → length (filter test xs) ≤ length xs → length (cond b (x ∷ filter test xs) (filter test xs)) ≤ suc (length xs)
    by_test true l = omega (arith, l)
    by_test false l = omega (arith, l)

-- no more places are needed than there are
pub few_needed : (given : Given) → length (needed_places given) ≤ length (all_places given)
unfolding needed_places
few_needed given = length_filter (has (named_places given)) (all_places given)

-- ---- the numbers of host calls

-- the next import's number is small too
pub number_next :
    (imports : List Import) (n : ℕ) (kind : ImportKind) → ((i : ℕ) (one : Import) → i < n → slice_get imports i ≡ Some one → IsHostNumber one.kind) → IsSomeAnd (slice_get imports n) (λ one. kind ≡ one.kind) → IsHostNumber kind
    → (i : ℕ) (one : Import) → i < n + 1 → slice_get imports i ≡ Some one → IsHostNumber one.kind
number_next imports n kind before there small i one lt e =
    ⊎_elim (λ l. before i one l e) (λ l. let at : i ≡ n = omega (arith, l, lt) in here at) (cases_lt i n)
  where
    here : i ≡ n → IsHostNumber one.kind
    here at =
        let is : slice_get imports n ≡ Some one = subst (λ k. slice_get imports k ≡ Some one) at e in
        let same : kind ≡ one.kind = subst (λ (o : Option Import). IsSomeAnd o (λ (x : Import). kind ≡ x.kind)) is there in
        subst IsHostNumber same small

pub numbers_small : (imports : List Import) (n : ℕ) → ((i : ℕ) (one : Import) → i < n → slice_get imports i ≡ Some one → IsHostNumber one.kind) → length imports ≤ n → (i : ℕ) (one : Import) → slice_get imports i ≡ Some one → IsHostNumber one.kind
numbers_small imports n each all i one e = (let w = slice_get_within imports i one e in each i one (omega (arith, w, all)) e)

pub has_in : (places all : List CodePlace) (i : ℕ) (p : CodePlace) → places ≡ all → slice_get places i ≡ Some p → has all p ≡ true
has_in places all i p e here = has_at all i p (ap (λ l. slice_get l i) (sym e) ∙ here)
