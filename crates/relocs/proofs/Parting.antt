-- The CALLs among relocations, and those that give an auipc its value, by offset.
use Rattle.std.proofs.Common.{◌≡◌, ◌<◌, ℕ, Bool, true, false, cond, List, [], ◌∷◌, length, Some, None, refl, sym, ap, subst, ◌∙◌, arith}
use Rattle.std.specs.Prelude.{not, slice_get, ◌||◌}
use Rattle.std.specs.List.{filter, find}
use Rattle.std.specs.List.Sorted.{IsNonDecreasingBy}
use Rattle.std.proofs.lemmas.List.Kept.{IsNonDecreasingBy-filter}
use Rattle.faults.specs.First.{where_true}
use Rattle.elf_objects.specs.declared.parts.Relocation.{Relocation}
use Rattle.relocs.specs.Kinds.{kind_of, is_call}
use Rattle.relocs.specs.Pairs.{has_call, is_none_of}
use Rattle.relocs.specs.Sites.{gives_high, found_of}
use Rattle.relocs.specs.ByOffset.{calls, is_at, offset_of}

-- one filter after another, in either order
pub filters_commute : {A : Type 0} (p q : A → Bool) (xs : List A) → filter p (filter q xs) ≡ filter q (filter p xs)
filters_commute p q [] = refl
filters_commute p q (x ∷ xs) = by_tests (p x) refl (q x) refl (filters_commute p q xs)
  where
    by_tests : (a : Bool) → p x ≡ a → (b : Bool) → q x ≡ b → filter p (filter q xs) ≡ filter q (filter p xs)
        → filter p (cond b (x ∷ filter q xs) (filter q xs)) ≡ filter q (cond a (x ∷ filter p xs) (filter p xs))
    by_tests true e true f rest = rw (e, f) (ap (λ l. x ∷ l) rest)
    by_tests true e false f rest = rw f rest
    by_tests false e true f rest = rw e rest
    by_tests false e false f rest = rest

pub call_kept : (rs : List Relocation) → has_call rs ≡ not (is_none_of (filter calls rs))
call_kept [] = refl
call_kept (r ∷ rs) = by_test (calls r) (call_kept rs)
  where
    by_test : (b : Bool) → has_call rs ≡ not (is_none_of (filter calls rs)) → (b || has_call rs) ≡ not (is_none_of (cond b (r ∷ filter calls rs) (filter calls rs)))
    by_test true e = refl
    by_test false e = e

pub high_kept : (rs : List Relocation) → find gives_high rs ≡ slice_get (filter gives_high rs) 0
high_kept [] = refl
high_kept (r ∷ rs) = by_test (gives_high r) (high_kept rs)
  where
    by_test : (b : Bool) → find gives_high rs ≡ slice_get (filter gives_high rs) 0 → cond b (Some r) (find gives_high rs) ≡ slice_get (cond b (r ∷ filter gives_high rs) (filter gives_high rs)) 0
    by_test true e = refl
    by_test false e = e

pub ruleset parts = (call_kept, high_kept)

-- those of a row at an offset that pass a test, from the ones of the row that do
pub part_at :
    (t : Relocation → Bool) (f : ℕ) (row part whole kept here there : List Relocation) → part ≡ filter t row → whole ≡ row → kept ≡ part → here ≡ filter (is_at f) whole
    → there ≡ filter (is_at f) kept → there ≡ filter t here
part_at t f row part whole kept here there is w k h e =
    e ∙ ap (filter (is_at f)) (k ∙ is) ∙ filters_commute (is_at f) t row ∙ ap (λ l. filter t (filter (is_at f) l)) (sym w) ∙ ap (filter t) (sym h)

pub part_rises : (t : Relocation → Bool) (row part kept : List Relocation) → IsNonDecreasingBy offset_of row → part ≡ filter t row → kept ≡ part → IsNonDecreasingBy offset_of kept
part_rises t row part kept rises is k = subst (IsNonDecreasingBy offset_of) (sym (k ∙ is)) (IsNonDecreasingBy-filter offset_of t row rises)

or_false : (b : Bool) → (b || false) ≡ b
or_false true = refl
or_false false = refl

pub found_none : (rs : List Relocation) → slice_get rs 0 ≡ None → found_of rs ≡ record { count = 0; call = false; high = None }
found_none [] e = refl
found_none (r ∷ rs) e = absurd cc

pub found_only : (rs : List Relocation) (r : Relocation) → length rs < 2 → slice_get rs 0 ≡ Some r → found_of rs ≡ record { count = 1; call = is_call (kind_of r.kind); high = where_true (gives_high r) r }
found_only [] r lt e = absurd cc
found_only (x ∷ []) r lt e = (let same : x ≡ r = cc in let call = or_false (is_call (kind_of r.kind)) in rw (same, call) refl)
found_only (x ∷ y ∷ rs) r lt e = absurd (omega (arith, lt))

pub ruleset few = (found_none, found_only)
