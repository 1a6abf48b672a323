-- The search for a place among places in code order.
use Rattle.std.proofs.Common.{◌≡◌, ⊎_elim, ℕ, zero, suc, ◌+◌, ◌<◌, ◌≤◌, Bool, true, false, ltb, List, [], ◌∷◌, length, map, get_or, Option, Some, None, refl, sym, ap, ◌∙◌, subst, arith}
use Rattle.std.specs.Prelude.{slice_get, ◌&&◌}
use Rattle.std.specs.List.{position, position_or_len}
use Rattle.std.proofs.lemmas.Bool.{cases_lt, eqb-true}
use Rattle.std.specs.Option.{option_map}
use Rattle.std.proofs.lemmas.List.{length-map}
use Rattle.std.proofs.lemmas.Option.{slice_get_within, slice_get-get_or}
use Rattle.std.proofs.lemmas.Option.{slice_get-map as get_map}
use Rattle.lift_blocks.specs.declared.site.Site.{Site}
use Rattle.relocs.specs.Places.{CodePlace, Code, Stub, Nowhere, same_place}
use Rattle.lift_blocks.specs.Kept.{site_of}
use Rattle.lift_blocks.specs.Rank.{rank_of, Ascends, IsFirstFrom, is_that}

both_true : (a b : Bool) → (a && b) ≡ true → (a ≡ true) × (b ≡ true)
both_true true b e = (refl, e)
both_true false b e = absurd cc

-- what is the same place is the place
pub place_same : (p q : CodePlace) → same_place p q ≡ true → p ≡ q
place_same (Code o s f) (Code o' s' f') e =
    let front = both_true _ _ e in
    let object = both_true _ _ front.0 in
    let a = eqb-true o o' object.0 in
    let b = eqb-true s s' object.1 in
    let c = eqb-true f f' front.1 in
    cc
place_same (Code o s f) (Stub n at) e = absurd cc
place_same (Code o s f) Nowhere e = absurd cc
place_same (Stub n at) (Code o s f) e = absurd cc
place_same (Stub n at) (Stub n' at') e =
    let both = both_true _ _ e in
    let a = eqb-true n n' both.0 in
    let b = eqb-true at at' both.1 in
    cc
place_same (Stub n at) Nowhere e = absurd cc
place_same Nowhere (Code o s f) e = absurd cc
place_same Nowhere (Stub n at) e = absurd cc
place_same Nowhere Nowhere e = refl

-- and a place with another rank isn't
pub other_rank : (p q : CodePlace) → (rank_of p ≡ rank_of q → ⊥) → same_place p q ≡ false
other_rank p q h = by_test (same_place p q) refl
  where
    by_test : (b : Bool) → same_place p q ≡ b → same_place p q ≡ false
    by_test true e = absurd (h (ap rank_of (place_same p q e)))
    by_test false e = e

pub past_le : {A : Type 0} (xs : List A) (q : ℕ) → slice_get xs q ≡ None → length xs ≤ q
past_le [] q e = omega arith
past_le (x ∷ xs) zero e = absurd cc
past_le (x ∷ xs) (suc q) e = let r = past_le xs q e in omega arith

-- the first place that passes a test: none before it does
pub position_found : {A : Type 0} (test : A → Bool) (xs : List A) (i : ℕ) (x : A) → slice_get xs i ≡ Some x → test x ≡ true → ((k : ℕ) (y : A) → k < i → slice_get xs k ≡ Some y → test y ≡ false) → position_or_len test xs ≡ i
position_found test [] i x e yes_ below = absurd cc
position_found test (y ∷ xs) zero x e passes below = (let same : y ≡ x = cc in let t : test y ≡ true = rw same passes in rw t refl)
position_found test (y ∷ xs) (suc i) x e passes below =
    let fails = below 0 y (omega arith) refl in
    let rest = position_found test xs i x e passes (λ k z l f. below (suc k) z (omega (arith, l)) f) in
    rw fails (omega (arith, rest))

pub position_none : {A : Type 0} (test : A → Bool) (xs : List A) → ((k : ℕ) (y : A) → slice_get xs k ≡ Some y → test y ≡ false) → position_or_len test xs ≡ length xs
position_none test [] none = refl
position_none test (y ∷ xs) none =
    let rest = position_none test xs (λ k z e. none (suc k) z e) in
    rw (none 0 y refl) (omega (arith, rest))

that_is : (p : CodePlace) (o : Option CodePlace) → is_that p o ≡ true → (q : CodePlace) × (o ≡ Some q) × (same_place p q ≡ true)
that_is p None e = absurd cc
that_is p (Some q) e = (q, refl, e)

-- the place is where it is found: those before it have lesser ranks
pub found : (places : List CodePlace) (p : CodePlace) (i : ℕ) → Ascends places → is_that p (slice_get places i) ≡ true → position (same_place p) places ≡ Some i
found places p i ordered that =
    let here = that_is p (slice_get places i) that in
    let q = here.0 in
    let is = place_same p q here.2 in
    let at = position_found (same_place p) places i q here.1 here.2 (λ k r l f. other_rank p r (λ same_rank. let b = ordered.rises k i r q l f here.1 in let same : rank_of p ≡ rank_of q = ap rank_of is in omega (arith, same_rank, same, b))) in
    let within = slice_get_within places i q here.1 in
    rw at (let t : ltb i (length places) ≡ true = grind (arith, within) in rw t refl)

-- it is nowhere, where it isn't at the first index at which no place before it is
pub absent : (places : List CodePlace) (p : CodePlace) (low : ℕ) → Ascends places → IsFirstFrom places p 0 (length places) low → is_that p (slice_get places low) ≡ false → position (same_place p) places ≡ None
absent places p low ordered first other =
    let at = position_none (same_place p) places each in
    rw at (let t : ltb (length places) (length places) ≡ false = grind arith in rw t refl)
  where
    past : (k : ℕ) (q : CodePlace) → low < k → slice_get places k ≡ Some q → (o : Option CodePlace) → slice_get places low ≡ o → same_place p q ≡ false
    past k q l e None n = (let a = past_le places low n in let b = slice_get_within places k q e in absurd (omega (arith, a, b, l)))
    past k q l e (Some r) n =
        let a = ordered.rises low k r q l n e in
        let b = first.above low r (omega arith) (slice_get_within places low r n) n in
        other_rank p q (λ same_rank. omega (arith, a, b, same_rank))

    here : (q : CodePlace) → slice_get places low ≡ Some q → same_place p q ≡ false
    here q e = sym (ap (is_that p) e) ∙ other

    each : (k : ℕ) (q : CodePlace) → slice_get places k ≡ Some q → same_place p q ≡ false
    each k q e =
        ⊎_elim (λ l. other_rank p q (λ same_rank. let b = first.below k q (omega arith) l e in omega (arith, b, same_rank)))
        (λ l. ⊎_elim (λ m. past k q m e (slice_get places low) refl) (λ m. let same : k ≡ low = omega (arith, l, m) in here q (rw (← same) e)) (cases_lt low k))
        (cases_lt k low)

-- an element of a list that a function made
pub slice_get-map : {A B : Type 0} (f : A → B) (xs : List A) (i : ℕ) (x : A) → slice_get xs i ≡ Some x → slice_get (map f xs) i ≡ Some (f x)
slice_get-map f [] i x e = absurd cc
slice_get-map f (y ∷ xs) zero x e = (let same : y ≡ x = cc in rw same refl)
slice_get-map f (y ∷ xs) (suc i) x e = slice_get-map f xs i x e

-- one step of the search: the middle place is before the one that is looked for, or it isn't
pub low_more :
    (places : List CodePlace) (p m : CodePlace) (middle : ℕ) → Ascends places → slice_get places middle ≡ Some m → rank_of m < rank_of p
    → (k : ℕ) (q : CodePlace) → k < middle + 1 → slice_get places k ≡ Some q → rank_of q < rank_of p
low_more places p m middle ordered here before k q lt e =
    ⊎_elim (λ l. let r = ordered.rises k middle q m l e here in omega (arith, r, before))
    (λ l. let at : k ≡ middle = omega (arith, l, lt) in let f : slice_get places middle ≡ Some q = rw (← at) e in let same : m ≡ q = cc in rw (← same) before)
    (cases_lt k middle)

pub high_less :
    (places : List CodePlace) (p m : CodePlace) (middle : ℕ) → Ascends places → slice_get places middle ≡ Some m → rank_of p ≤ rank_of m
    → (k : ℕ) (q : CodePlace) → middle ≤ k → slice_get places k ≡ Some q → rank_of p ≤ rank_of q
high_less places p m middle ordered here from k q le e =
    ⊎_elim (λ l. let r = ordered.rises middle k m q l here e in omega (arith, r, from))
    (λ l. let at : k ≡ middle = omega (arith, l, le) in let f : slice_get places middle ≡ Some q = rw (← at) e in let same : m ≡ q = cc in rw (← same) from)
    (cases_lt middle k)

-- the place at an index
pub mapped_at : (ps : List Site) (i : ℕ) (d : Site) → i < length ps → slice_get (map site_of ps) i ≡ Some (site_of (get_or ps i d))
mapped_at ps i d lt = slice_get-map site_of ps i (get_or ps i d) (slice_get-get_or ps i d lt)

pub mapped_past : (ps : List Site) (i : ℕ) (q : CodePlace) → length ps ≤ i → slice_get (map site_of ps) i ≡ Some q → ⊥
mapped_past [] i q le e = absurd cc
mapped_past (p ∷ ps) zero q le e = omega (arith, le)
mapped_past (p ∷ ps) (suc i) q le e = mapped_past ps i q (omega (arith, le)) e

-- there is one element at one index
pub some_same : {A : Type 0} {o : Option A} {x y : A} → o ≡ Some x → o ≡ Some y → x ≡ y
some_same e f = cc

-- the search for a place of a list of the program
pub site_found : (ps : List Site) (p : CodePlace) (i : ℕ) → Ascends (map site_of ps) → is_that p (option_map site_of (slice_get ps i)) ≡ true → Some i ≡ position (same_place p) (map site_of ps)
site_found ps p i ordered that = sym (found (map site_of ps) p i ordered (ap (is_that p) (get_map site_of ps i) ∙ that))

pub site_absent : (ps : List Site) (p : CodePlace) (i : ℕ) → Ascends (map site_of ps) → IsFirstFrom (map site_of ps) p 0 (length ps) i → is_that p (option_map site_of (slice_get ps i)) ≡ false → None ≡ position (same_place p) (map site_of ps)
site_absent ps p i ordered first other =
    sym (absent (map site_of ps) p i ordered (subst (λ n. IsFirstFrom (map site_of ps) p 0 n i) (sym (length-map ps site_of)) first) (ap (is_that p) (get_map site_of ps i) ∙ other))
