-- The relocations at one offset, as a loop over the table finds them.
use Rattle.std.proofs.Common.{◌≡◌, ℕ, zero, suc, ◌+◌, ◌≤◌, Bool, true, false, cond, List, [], ◌∷◌, ◌++◌, length, take, Option, Some, None, refl, sym, ap, subst, ◌∙◌, arith, length-append}
use Rattle.std.specs.Prelude.{slice_get, IfSome, ◌||◌, if◌then◌else◌}
use Rattle.std.specs.List.{filter, find}
use Rattle.std.proofs.lemmas.List.Folds.{list_any-append}
use Rattle.faults.specs.First.{◌or_else◌, where_true}
use Rattle.elf_objects.specs.declared.parts.Relocation.{Relocation}
use Rattle.relocs.specs.declared.found.Found.{Found}
use Rattle.relocs.specs.Kinds.{kind_of, is_call}
use Rattle.symbols.specs.Wanted.{Given}
use Rattle.relocs.specs.Pairs.{relocation_is_at, has_call}
use Rattle.relocs.specs.Sites.{IsNamed, gives_high, found_of, found_more}

pub filter_next : {A : Type 0} (test : A → Bool) (xs : List A) (i : ℕ) (x : A) → slice_get xs i ≡ Some x → filter test (take (suc i) xs) ≡ filter test (take i xs) ++ cond (test x) (x ∷ []) []
filter_next test [] i x e = absurd cc
filter_next test (y ∷ xs) zero x e = (let same : y ≡ x = cc in rw same (by_test (test x)))
  where
    by_test : (b : Bool) → cond b (x ∷ []) [] ≡ [] ++ cond b (x ∷ []) []
    by_test b = refl
filter_next test (y ∷ xs) (suc i) x e = by_head (test y) (filter_next test xs i x e)
  where
    by_head : (b : Bool) → filter test (take (suc i) xs) ≡ filter test (take i xs) ++ cond (test x) (x ∷ []) []
        → cond b (y ∷ filter test (take (suc i) xs)) (filter test (take (suc i) xs)) ≡ cond b (y ∷ filter test (take i xs)) (filter test (take i xs)) ++ cond (test x) (x ∷ []) []
    by_head true e = ap (λ l. y ∷ l) e
    by_head false e = e

find-one : {A : Type 0} (test : A → Bool) (xs : List A) (x : A) → find test (xs ++ x ∷ []) ≡ (find test xs or_else where_true (test x) x)
find-one test [] x = refl
find-one test (y ∷ xs) x = by_head (test y) (find-one test xs x)
  where
    by_head : (b : Bool) → find test (xs ++ x ∷ []) ≡ (find test xs or_else where_true (test x) x)
        → cond b (Some y) (find test (xs ++ x ∷ [])) ≡ (cond b (Some y) (find test xs) or_else where_true (test x) x)
    by_head true e = refl
    by_head false e = e

or_false : (b : Bool) → (b || false) ≡ b
or_false true = refl
or_false false = refl

found_one : (rs : List Relocation) (r : Relocation) → found_of (rs ++ r ∷ []) ≡ found_more (found_of rs) r
found_one rs r =
    let count : length (rs ++ r ∷ []) ≡ length rs + 1 = length-append rs (r ∷ []) in
    let call : has_call (rs ++ r ∷ []) ≡ (has_call rs || is_call (kind_of r.kind)) =
    list_any-append (λ r. is_call (kind_of r.kind)) rs (r ∷ []) ∙ ap (λ b. has_call rs || b) (or_false (is_call (kind_of r.kind))) in
    let high : find gives_high (rs ++ r ∷ []) ≡ (find gives_high rs or_else where_true (gives_high r) r) = find-one gives_high rs r in
    cc

append_none : {A : Type 0} (xs : List A) → xs ++ [] ≡ xs
append_none [] = refl
append_none (x ∷ xs) = ap (λ l. x ∷ l) (append_none xs)

-- with the next relocation of the table
pub found_next :
    (offset i : ℕ) (table : List Relocation) (r : Relocation) (now new : Found) → slice_get table i ≡ Some r → now ≡ found_of (filter (relocation_is_at offset) (take i table))
    → new ≡ (if relocation_is_at offset r then found_more now r else now) → new ≡ found_of (filter (relocation_is_at offset) (take (i + 1) table))
found_next offset i table r now new here was is =
    let next : i + 1 ≡ suc i = omega arith in
    is ∙ by_test (relocation_is_at offset r) ∙ ap found_of (sym (filter_next (relocation_is_at offset) table i r here)) ∙ ap (λ n. found_of (filter (relocation_is_at offset) (take n table))) (sym next)
  where
    by_test : (b : Bool) → (if b then found_more now r else now) ≡ found_of (filter (relocation_is_at offset) (take i table) ++ cond b (r ∷ []) [])
    by_test true = ap (λ f. found_more f r) was ∙ sym (found_one (filter (relocation_is_at offset) (take i table)) r)
    by_test false = was ∙ ap found_of (sym (append_none (filter (relocation_is_at offset) (take i table))))

length-filter : {A : Type 0} (test : A → Bool) (xs : List A) → length (filter test xs) ≤ length xs
length-filter test [] = omega arith
length-filter test (x ∷ xs) = by_head (test x) (length-filter test xs)
  where
    by_head : (b : Bool) → length (filter test xs) ≤ length xs → length (cond b (x ∷ filter test xs) (filter test xs)) ≤ suc (length xs)
    by_head true e = omega (arith, e)
    by_head false e = omega (arith, e)

length-take-le : {A : Type 0} (n : ℕ) (xs : List A) → length (take n xs) ≤ n
length-take-le zero xs = omega arith
length-take-le (suc n) [] = omega arith
length-take-le (suc n) (x ∷ xs) = let rest = length-take-le n xs in omega (arith, rest)

-- no more are found than were looked at
pub found_few : (offset i : ℕ) (table : List Relocation) (found : Found) → found ≡ found_of (filter (relocation_is_at offset) (take i table)) → found.count ≤ i
found_few offset i table found is =
    let count : found.count ≡ length (filter (relocation_is_at offset) (take i table)) = ap (λ f. f.count) is in
    omega (arith, count, length-filter (relocation_is_at offset) (take i table), length-take-le i table)

-- the symbol of what gives a value is still in the object
pub named_next :
    (given : Given) (o offset : ℕ) (r : Relocation) (now new : Found) → IfSome now.high (IsNamed given o) → IsNamed given o r
    → new ≡ (if relocation_is_at offset r then found_more now r else now) → IfSome new.high (IsNamed given o)
named_next given o offset r now new was here is = subst (λ f. IfSome f.high (IsNamed given o)) (sym is) (by_test (relocation_is_at offset r))
  where
    first_or : (a : Option Relocation) (b : Bool) → IfSome a (IsNamed given o) → IfSome (a or_else where_true b r) (IsNamed given o)
    first_or (Some x) b h = h
    first_or None true h = here
    first_or None false h = tt

    by_test : (b : Bool) → IfSome ((if b then found_more now r else now).high) (IsNamed given o)
    by_test true = first_or now.high (gives_high r) was
    by_test false = was
