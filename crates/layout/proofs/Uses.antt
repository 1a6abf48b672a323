-- Places are added one after another.
use Rattle.std.proofs.Common.{◌≡◌, ℕ, zero, suc, ◌+◌, List, [], ◌∷◌, ◌++◌, take, length, ◌<◌, Some, None, Option, refl, ap, sym, ◌∙◌, arith}
use Rattle.std.specs.Prelude.{slice_get, unwrap_or, fold, nat_eq}
use Rattle.faults.specs.First.{where_true}
use Rattle.elf_objects.specs.declared.parts.Relocation.{Relocation}
use Rattle.symbols.specs.declared.place.Place.{Place}
use Rattle.symbols.specs.Resolution.{resolution}
use Rattle.symbols.specs.Wanted.{Given}
use Rattle.symbols.specs.Parts.{object_at, no_object, symbol_count}
use Rattle.symbols.specs.Resolved.{Resolved, IsResolved, place_in}
use Rattle.elf_objects.specs.Objects.{Object, relocations_of}
use Rattle.std.proofs.lemmas.Option.{slice_get_within}
use Rattle.layout.specs.Slots.{with_place, slot_use}
use Rattle.layout.specs.declared.slots.TheConstants.{GOT_HI20}
use Rattle.std.specs.List.{filter_map, cons_option}
use Rattle.faults.specs.Present.{each_below}

fold-append : {A B : Type 0} (f : B → A → B) (a : B) (xs ys : List A) → fold f a (xs ++ ys) ≡ fold f (fold f a xs) ys
fold-append f a [] ys = refl
fold-append f a (x ∷ xs) ys = fold-append f (f a x) xs ys

-- with the next of several lists
pub fold_each :
    {A B : Type 0} (f : B → A → B) (a : B) (at : ℕ → List A) (i : ℕ) (now new : B) → now ≡ fold f a (each_below i at) → new ≡ fold f now (at i)
    → new ≡ fold f a (each_below (i + 1) at)
unfolding each_below
fold_each f a at i now new was is =
    let next : i + 1 ≡ suc i = omega arith in
    is ∙ ap (λ b. fold f b (at i)) was ∙ sym (fold-append f a (each_below i at) (at i)) ∙ ap (λ n. fold f a (each_below n at)) (sym next)

pub fold_none : {A B : Type 0} (f : B → A → B) (a : B) (at : ℕ → List A) → a ≡ fold f a (each_below 0 at)
unfolding each_below
fold_none f a at = refl

some_next : {A C : Type 0} (h : A → Option C) (xs : List A) (i : ℕ) (x : A) → slice_get xs i ≡ Some x → filter_map h (take (suc i) xs) ≡ filter_map h (take i xs) ++ cons_option (h x) []
some_next {C = C} h [] i x e = absurd cc
some_next {C = C} h (y ∷ xs) zero x e = (let same : y ≡ x = cc in rw same refl)
some_next {C = C} h (y ∷ xs) (suc i) x e = after (h y) _ _ (some_next h xs i x e)
  where
    after : (o : Option C) (more before : List C) → more ≡ before ++ cons_option (h x) [] → cons_option o more ≡ cons_option o before ++ cons_option (h x) []
    after None more before e = e
    after (Some z) more before e = ap (λ l. z ∷ l) e

-- with what the next of a list gives
pub fold_some :
    {A B C : Type 0} (f : B → C → B) (a : B) (h : A → Option C) (xs : List A) (i : ℕ) (x : A) (now new : B) → slice_get xs i ≡ Some x
    → now ≡ fold f a (filter_map h (take i xs)) → new ≡ fold f now (cons_option (h x) []) → new ≡ fold f a (filter_map h (take (i + 1) xs))
fold_some f a h xs i x now new e was is =
    let next : i + 1 ≡ suc i = omega arith in
    is ∙ ap (λ b. fold f b (cons_option (h x) [])) was ∙ sym (fold-append f a (filter_map h (take i xs)) (cons_option (h x) []))
    ∙ ap (fold f a) (sym (some_next h xs i x e)) ∙ ap (λ n. fold f a (filter_map h (take n xs))) (sym next)

-- what a table of relocations adds, with the next of them, whose symbol stands for a place
pub uses_more :
    (given : Given) (o i : ℕ) (relocations : List Relocation) (r : Relocation) (place : Place) (old now new : List Place) → slice_get relocations i ≡ Some r
    → place ≡ resolution given o r.symbol → now ≡ fold with_place old (filter_map (slot_use given o) (take i relocations))
    → new ≡ fold with_place now (cons_option (where_true (nat_eq r.kind GOT_HI20) place) []) → new ≡ fold with_place old (filter_map (slot_use given o) (take (i + 1) relocations))
uses_more given o i relocations r place old now new here is was added =
    fold_some with_place old (slot_use given o) relocations i r now new here was (added ∙ ap (λ p. fold with_place now (cons_option (where_true (nat_eq r.kind GOT_HI20) p) [])) is)

-- the same of a table of an object, by what the readers return
pub table_more :
    (given : Given) (resolved : Resolved) (o s i : ℕ) (object : Object) (r : Relocation) (place : Place) (old now new : List Place) → IsResolved given resolved
    → slice_get given.objects o ≡ Some object → slice_get (relocations_of object s) i ≡ Some r → r.symbol < length object.symbols → place_in resolved o r.symbol ≡ Some place
    → now ≡ fold with_place old (filter_map (slot_use given o) (take i (relocations_of (object_at given.objects o) s)))
    → new ≡ fold with_place now (cons_option (where_true (nat_eq r.kind GOT_HI20) place) [])
    → new ≡ fold with_place old (filter_map (slot_use given o) (take (i + 1) (relocations_of (object_at given.objects o) s)))
table_more given resolved o s i object r place old now new is_resolved there here symbol named was added =
    let the_object : object_at given.objects o ≡ object = ap (λ x. unwrap_or x no_object) there in
    let symbol_in : r.symbol < symbol_count given.objects o = rw the_object symbol in
    let both = sym named ∙ is_resolved.symbols_are o r.symbol (slice_get_within given.objects o object there) symbol_in in
    let place_is : place ≡ resolution given o r.symbol = cc in
    uses_more given o i (relocations_of (object_at given.objects o) s) r place old now new (ap (λ x. slice_get (relocations_of x s) i) the_object ∙ here) place_is was added
