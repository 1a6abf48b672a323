-- What is chosen by marks, and the numbers of what is chosen.
use Rattle.std.proofs.Common.{◌≡◌, ℕ, zero, suc, ◌+◌, ◌<◌, ◌≤◌, Bool, true, false, cond, List, [], ◌∷◌, ◌++◌, length, length-append, get_or, map, drop, Some, refl, sym, ap, ◌∙◌, arith, add-one, drop-cons}
use Rattle.std.specs.Prelude.{slice_get, if◌then◌else◌}
use Rattle.std.specs.List.{filter}
use Rattle.std.proofs.lemmas.List.{append_assoc, append-nil, drop_all}
use Rattle.std.proofs.lemmas.Option.{slice_get_within, slice_get-get_or}
use Rattle.lift_blocks.specs.Marks.{chosen}

cond_front : {X : Type 0} (b : Bool) (x : X) (xs : List X) → cond b (x ∷ xs) xs ≡ (if b then x ∷ [] else []) ++ xs
cond_front true x xs = refl
cond_front false x xs = refl

-- the marked ones of two lists from an index on
pub chosen_step : {X : Type 0} (bs : List Bool) (xs : List X) (i : ℕ) (d : X) → i < length xs → length bs ≡ length xs → chosen (drop i bs) (drop i xs) ≡ (if get_or bs i false then get_or xs i d ∷ [] else []) ++ chosen (drop (i + 1) bs) (drop (i + 1) xs)
chosen_step bs xs i d l e =
    let within : i < length bs = omega arith in
    rw (add-one, drop-cons bs i false within, drop-cons xs i d l) (cond_front (get_or bs i false) (get_or xs i d) (chosen (drop (suc i) bs) (drop (suc i) xs)))

-- those that pass a test
pub chosen_filter : {X : Type 0} (test : X → Bool) (xs : List X) → chosen (map test xs) xs ≡ filter test xs
chosen_filter test [] = refl
chosen_filter test (x ∷ xs) = ap (λ l. cond (test x) (x ∷ l) l) (chosen_filter test xs)

pub chosen_map : {X Y : Type 0} (g : X → Y) (bs : List Bool) (xs : List X) → chosen bs (map g xs) ≡ map g (chosen bs xs)
chosen_map g [] xs = refl
chosen_map g (b ∷ bs) [] = refl
chosen_map g (b ∷ bs) (x ∷ xs) = by_mark b (chosen_map g bs xs)
  where
    by_mark : (b : Bool) → chosen bs (map g xs) ≡ map g (chosen bs xs) → cond b (g x ∷ chosen bs (map g xs)) (chosen bs (map g xs)) ≡ map g (cond b (x ∷ chosen bs xs) (chosen bs xs))
    by_mark true r = ap (λ l. g x ∷ l) r
    by_mark false r = r

-- as many are chosen, whatever they are
pub length_chosen : {X Y : Type 0} (bs : List Bool) (xs : List X) (ys : List Y) → length xs ≡ length ys → length (chosen bs xs) ≡ length (chosen bs ys)
length_chosen [] xs ys e = refl
length_chosen (b ∷ bs) [] [] e = refl
length_chosen (b ∷ bs) [] (y ∷ ys) e = absurd (omega (arith, e))
length_chosen (b ∷ bs) (x ∷ xs) [] e = absurd (omega (arith, e))
length_chosen (b ∷ bs) (x ∷ xs) (y ∷ ys) e = by_mark b (length_chosen bs xs ys (omega (arith, e)))
  where
    by_mark : (b : Bool) → length (chosen bs xs) ≡ length (chosen bs ys) → length (cond b (x ∷ chosen bs xs) (chosen bs xs)) ≡ length (cond b (y ∷ chosen bs ys) (chosen bs ys))
    by_mark true r = omega (arith, r)
    by_mark false r = r

pub chosen_at_most : {X : Type 0} (bs : List Bool) (xs : List X) → length (chosen bs xs) ≤ length xs
chosen_at_most [] xs = omega arith
chosen_at_most (b ∷ bs) [] = omega arith
chosen_at_most (b ∷ bs) (x ∷ xs) = by_mark b (chosen_at_most bs xs)
  where
    by_mark : (b : Bool) → length (chosen bs xs) ≤ length xs → length (cond b (x ∷ chosen bs xs) (chosen bs xs)) ≤ suc (length xs)
    by_mark true r = omega (arith, r)
    by_mark false r = omega (arith, r)

-- a chosen element is one of all
pub chosen_member : {X : Type 0} (bs : List Bool) (xs : List X) (k : ℕ) (x : X) → slice_get (chosen bs xs) k ≡ Some x → (j : ℕ) × (slice_get xs j ≡ Some x) × (slice_get bs j ≡ Some true)
chosen_member [] xs k x e = absurd cc
chosen_member (b ∷ bs) [] k x e = absurd cc
chosen_member {X} (b ∷ bs) (y ∷ xs) k x e = by_mark b k e (λ j f. chosen_member bs xs j x f)
  where
    by_mark : (b : Bool) (k : ℕ) → slice_get (cond b (y ∷ chosen bs xs) (chosen bs xs)) k ≡ Some x → ((k : ℕ) → slice_get (chosen bs xs) k ≡ Some x → (j : ℕ) × (slice_get xs j ≡ Some x) × (slice_get bs j ≡ Some true)) → (j : ℕ) × (slice_get (y ∷ xs) j ≡ Some x) × (slice_get (b ∷ bs) j ≡ Some true)
    by_mark true zero e more = (0, e, refl)
    by_mark true (suc k) e more = (let r = more k e in (suc r.0, r.1, r.2))
    by_mark false k e more = (let r = more k e in (suc r.0, r.1, r.2))

-- ---- a list that a loop makes of the marked elements

chosen_more : {X : Type 0} (bs : List Bool) (xs : List X) (i : ℕ) (x : X) → slice_get xs i ≡ Some x → length bs ≡ length xs → chosen (drop i bs) (drop i xs) ≡ (if get_or bs i false then x ∷ [] else []) ++ chosen (drop (i + 1) bs) (drop (i + 1) xs)
chosen_more bs xs i x e n =
    let within = slice_get_within xs i x e in
    let is : get_or xs i x ≡ x = some_is (sym (slice_get-get_or xs i x within) ∙ e) in
    chosen_step bs xs i x within n ∙ ap (λ y. (if get_or bs i false then y ∷ [] else []) ++ chosen (drop (i + 1) bs) (drop (i + 1) xs)) is
  where
    some_is : {Y : Type 0} {a b : Y} → Some a ≡ Some b → a ≡ b
    some_is f = cc

pub listed_more :
    {X : Type 0} (bs : List Bool) (xs : List X) (i : ℕ) (x : X) (now new all : List X) → now ++ chosen (drop i bs) (drop i xs) ≡ all → new ≡ now ++ (if get_or bs i false then x ∷ [] else [])
    → slice_get xs i ≡ Some x → length bs ≡ length xs → new ++ chosen (drop (i + 1) bs) (drop (i + 1) xs) ≡ all
listed_more bs xs i x now new all was is here n =
    ap (λ l. l ++ chosen (drop (i + 1) bs) (drop (i + 1) xs)) is ∙ append_assoc now (if get_or bs i false then x ∷ [] else []) (chosen (drop (i + 1) bs) (drop (i + 1) xs))
    ∙ ap (λ l. now ++ l) (sym (chosen_more bs xs i x here n)) ∙ was

pub listed_all : {X : Type 0} (bs : List Bool) (xs : List X) (i : ℕ) (now all : List X) → now ++ chosen (drop i bs) (drop i xs) ≡ all → length bs ≤ i → now ≡ all
listed_all bs xs i now all was past =
    let none : drop i bs ≡ [] = drop_all i bs past in
    sym (append-nil now) ∙ ap (λ l. now ++ chosen l (drop i xs)) (sym none) ∙ was

-- a mark says what the test of its element says
tested_at : {X : Type 0} (test : X → Bool) (xs : List X) (i : ℕ) (x : X) → slice_get xs i ≡ Some x → get_or (map test xs) i false ≡ test x
tested_at test [] i x e = absurd cc
tested_at test (y ∷ xs) zero x e = (let same : y ≡ x = cc in ap test same)
tested_at test (y ∷ xs) (suc i) x e = tested_at test xs i x e

pub mark_is : {X : Type 0} (test : X → Bool) (xs : List X) (marks : List Bool) (i : ℕ) (x : X) → marks ≡ map test xs → slice_get xs i ≡ Some x → get_or marks i false ≡ test x
mark_is test xs marks i x e here = ap (λ l. get_or l i false) e ∙ tested_at test xs i x here

pub one_more : {X : Type 0} (now new : List X) (b : Bool) (x : X) (i : ℕ) → new ≡ now ++ (if b then x ∷ [] else []) → length now ≤ i → length new ≤ i + 1
one_more now new true x i e l = (let n = ap length e in omega (arith, n, l, length-append now (x ∷ [])))
one_more now new false x i e l = (let n = ap length (e ∙ append-nil now) in omega (arith, n, l))
