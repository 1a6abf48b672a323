-- The place that a relocation names as an address has a number, where it is a place.
use Rattle.std.proofs.Common.{◌≡◌, ℕ, zero, suc, ◌<◌, ◌≤◌, Bool, true, false, ltb, eqb, List, [], ◌∷◌, ◌++◌, length, Option, Some, None, refl, sym, ap, ◌∙◌, arith, inl, inr, subst}
use Rattle.std.proofs.Math.Nat.{eq-or-lt_of_le}
use Rattle.std.specs.Prelude.{slice_get, is_some, ◌||◌}
use Rattle.std.specs.List.{list_any, filter_map, cons_option, position_or_len}
use Rattle.std.proofs.lemmas.List.Folds.{list_any-append}
use Rattle.std.proofs.lemmas.Map.Views.{any-filter_same}
use Rattle.faults.specs.Present.{each_below}
use Rattle.elf_objects.specs.declared.parts.Relocation.{Relocation}
use Rattle.symbols.specs.Parts.{object_at}
use Rattle.symbols.specs.Wanted.{Given}
use Rattle.symbols.specs.Resolution.{resolution}
use Rattle.layout.specs.Slots.{each_section, loaded_relocations}
use Rattle.relocs.specs.Kinds.{names_address}
use Rattle.relocs.specs.Places.{CodePlace, Code, Stub, Nowhere, same_place, has}
use Rattle.relocs.specs.Pairs.{all_places, is_place}
use Rattle.relocs.specs.AddressMap.{place_at, link_at, address_named, addresses_named, named_places, needed_places, number_in}
use Rattle.relocs.specs.Sources.{IsRelocation}
use Rattle.relocs.proofs.Search.{place_same}

-- ---- elements that pass a test

or_right : (a : Bool) → (a || true) ≡ true
or_right true = refl
or_right false = refl

any_right : {A : Type 0} (test : A → Bool) (xs ys : List A) → list_any test ys ≡ true → list_any test (xs ++ ys) ≡ true
any_right test xs ys e = list_any-append test xs ys ∙ ap (λ b. list_any test xs || b) e ∙ or_right (list_any test xs)

any_left : {A : Type 0} (test : A → Bool) (xs ys : List A) → list_any test xs ≡ true → list_any test (xs ++ ys) ≡ true
any_left test xs ys e = list_any-append test xs ys ∙ ap (λ b. b || list_any test ys) e

any_each : {A : Type 0} (test : A → Bool) (n i : ℕ) (at : ℕ → List A) → i < n → list_any test (at i) ≡ true → list_any test (each_below n at) ≡ true
unfolding each_below
any_each test zero i at lt e = absurd (omega (arith, lt))
any_each test (suc n) i at lt e =
    let le : i ≤ n = omega (arith, lt) in
    elim (eq-or-lt_of_le le) [
      | inl same ↦ any_right test (each_below n at) (at n) (subst (λ k. list_any test (at k) ≡ true) same e)
      | inr less ↦ any_left test (each_below n at) (at n) (any_each test n i at less e)
    ]

any_later : {A : Type 0} (test : A → Bool) (o : Option A) (xs : List A) → list_any test xs ≡ true → list_any test (cons_option o xs) ≡ true
any_later test None xs e = e
any_later test (Some y) xs e = rw e (or_right (test y))

any_filter_map : {A B : Type 0} (test : B → Bool) (h : A → Option B) (xs : List A) (i : ℕ) (x : A) (y : B) → slice_get xs i ≡ Some x → h x ≡ Some y → test y ≡ true → list_any test (filter_map h xs) ≡ true
any_filter_map test h [] i x y e f t = absurd cc
any_filter_map test h (z ∷ xs) zero x y e f t = (let same : z ≡ x = cc in rw (same, f, t) refl)
any_filter_map test h (z ∷ xs) (suc i) x y e f t = any_later test (h z) (filter_map h xs) (any_filter_map test h xs i x y e f t)

-- ---- numbers

length_past : {A : Type 0} (test : A → Bool) (xs : List A) → ltb (position_or_len test xs) (length xs) ≡ list_any test xs
length_past test [] = refl
length_past test (x ∷ xs) = by_test (length_past test xs) (test x) refl
  where
    by_test : ltb (position_or_len test xs) (length xs) ≡ list_any test xs → (b : Bool) → test x ≡ b → ltb (position_or_len test (x ∷ xs)) (suc (length xs)) ≡ list_any test (x ∷ xs)
    by_test rest true e = rw e (grind arith)
    by_test rest false e = rw e (grind (arith, rest))

has_number : (needed : List CodePlace) (p : CodePlace) → is_some (number_in needed p) ≡ has needed p
has_number needed p = by_test (ltb (position_or_len (same_place p) needed) (length needed)) refl
  where
    by_test : (b : Bool) → ltb (position_or_len (same_place p) needed) (length needed) ≡ b → is_some (number_in needed p) ≡ has needed p
    by_test true e = rw e (sym e ∙ length_past (same_place p) needed)
    by_test false e = rw e (sym e ∙ length_past (same_place p) needed)

-- ---- named places

pub eqb_self : (n : ℕ) → eqb n n ≡ true
eqb_self n = grind arith

same_self : (p : CodePlace) → same_place p p ≡ true
same_self (Code o s f) = rw (eqb_self o, eqb_self s, eqb_self f) refl
same_self (Stub n at) = rw (eqb_self n, eqb_self at) refl
same_self Nowhere = refl

-- the place that a relocation names is among those that are named
pub is_named : (given : Given) (o s : ℕ) (r : Relocation) → IsRelocation given o s r → names_address r ≡ true → has (named_places given) (place_at (resolution given o r.symbol) r.addend) ≡ true
is_named given o s r is names =
    let p : CodePlace = place_at (resolution given o r.symbol) r.addend in
    let named : address_named given o r ≡ Some p = rw names refl in
    any_right (same_place p) (filter_map (link_at given) (all_places given)) (each_section given (addresses_named given))
    (any_each (same_place p) (length given.objects) o (λ o. each_below (length (object_at given.objects o).sections) (addresses_named given o)) is.object_in
    (any_each (same_place p) (length (object_at given.objects o).sections) s (addresses_named given o) is.section_in
    (any_filter_map (same_place p) (address_named given o) (loaded_relocations given o s) is.at r p is.entry named (same_self p))))

-- a place that is named has a number exactly where it is a place
pub named_number : (given : Given) (p : CodePlace) → has (named_places given) p ≡ true → is_some (number_in (needed_places given) p) ≡ is_place given p
unfolding needed_places
named_number given p named =
    has_number (needed_places given) p
    ∙ any-filter_same (same_place p) (has (named_places given)) true (λ q same. ap (has (named_places given)) (sym (place_same p q same)) ∙ named) (all_places given)
