-- What a table of names has for a name, as it is made of the entries of an ordered map and as names are added.
use Rattle.std.proofs.Common.{◌≡◌, ℕ, Bool, true, false, cond, List, [], ◌∷◌, ◌++◌, map, Option, Some, None, is_some, refl, sym, ◌∙◌, ap, if◌then◌else◌}
use Rattle.std.specs.Map.{lookup}
use Rattle.std.specs.Cmp.Lexicographic.{same_text, slice_cmp, texts_ties}
use Rattle.std.proofs.lemmas.Cmp.{nat_list_eq_equiv}
use Rattle.std.specs.BTreeMap.{insert_entry}
use Rattle.std.specs.Ordering.{is_eq, match_ordering, nat_cmp}
use Rattle.std.specs.declared.cmp.Ordering.{Ordering}
use Rattle.std.specs.declared.cmp.Ordering.TheVariants.{Less, Equal, Greater}
use Rattle.faults.specs.First.{◌or_else◌, where_true}
use Rattle.symbols.specs.Parts.{same}
use Rattle.symbols.specs.declared.names.Meaning.{Meaning}
use Rattle.symbols.specs.Names.{meaning_in, added, HasSame}

module _ {K L X : Type 0} (f : K → L) where
  -- the entries with their keys seen by f
  abbrev pub seen_by : List (K × X) → List (L × X)
  seen_by es = map (λ e. (f e.0, e.1)) es

  -- a test finds the same in the entries as they are seen
  pub lookup-seen_by : (test : L → Bool) (es : List (K × X)) → lookup test (seen_by es) ≡ lookup (λ k. test (f k)) es
  lookup-seen_by test [] = refl
  lookup-seen_by test (e ∷ es) = ap (cond (test (f e.0)) (Some e.1)) (lookup-seen_by test es)

  pub seen_by-append : (es fs : List (K × X)) → seen_by (es ++ fs) ≡ seen_by es ++ seen_by fs
  seen_by-append [] fs = refl
  seen_by-append (e ∷ es) fs = ap (λ l. (f e.0, e.1) ∷ l) (seen_by-append es fs)

pub lookup-append : {K X : Type 0} (test : K → Bool) (es fs : List (K × X)) → lookup test (es ++ fs) ≡ (lookup test es or_else lookup test fs)
lookup-append test [] fs = refl
lookup-append test (e ∷ es) fs = by (test e.0) (lookup-append test es fs)
  where
    by : (b : Bool) → lookup test (es ++ fs) ≡ (lookup test es or_else lookup test fs) → cond b (Some e.1) (lookup test (es ++ fs)) ≡ (cond b (Some e.1) (lookup test es) or_else lookup test fs)
    by true rest = refl
    by false rest = rest

-- a name that is equal to another finds what that finds
pub same-lookup : {X : Type 0} (name other : List ℕ) (es : List (List ℕ × X)) → same name other ≡ true → lookup (same name) es ≡ lookup (same other) es
same-lookup name other es e = ap (λ n. lookup (same n) es) (same_text name other (sym e))

-- what a table has once a name was added
pub meaning_in-added : (names : List (List ℕ × Meaning)) (name other : List ℕ) (meaning : Meaning) → meaning_in (added names other meaning) name ≡ (meaning_in names name or_else where_true (same name other) meaning)
meaning_in-added names name other meaning = by (meaning_in names other) refl
  where
    there : (m : Meaning) (b : Bool) → same name other ≡ b → meaning_in names other ≡ Some m → meaning_in names name ≡ (meaning_in names name or_else where_true b meaning)
    there m true e found = rw (same-lookup name other names e, found) refl
    there m false e found = absurd_free (meaning_in names name)
      where
        absurd_free : (o : Option Meaning) → o ≡ (o or_else None)
        absurd_free None = refl
        absurd_free (Some x) = refl

    by : (o : Option Meaning) → meaning_in names other ≡ o → meaning_in (if is_some o then names else names ++ (other, meaning) ∷ []) name ≡ (meaning_in names name or_else where_true (same name other) meaning)
    by (Some m) found = there m (same name other) refl found
    by None found = lookup-append (same name) names ((other, meaning) ∷ [])

-- a name is compared as it is tested
tied : {K X : Type 0} (f : K → List ℕ) (name : List ℕ) (es : List (K × X)) → lookup (λ k. is_eq (slice_cmp nat_cmp name (f k))) es ≡ lookup (λ k. same name (f k)) es
tied f name [] = refl
tied f name (e ∷ es) = rw (← texts_ties name (f e.0)) (ap (cond (same name (f e.0)) (Some e.1)) (tied f name es))

-- what an ordered map finds for a name
pub lookup-ordered : {K X : Type 0} (f : K → List ℕ) (name : List ℕ) (es : List (K × X)) → lookup (λ k. is_eq (slice_cmp nat_cmp name (f k))) es ≡ lookup (same name) (seen_by f es)
lookup-ordered f name es = tied f name es ∙ sym (lookup-seen_by f (same name) es)

-- and what it finds once a name was inserted
pub lookup-inserted : {K X : Type 0} (f : K → List ℕ) (es : List (K × X)) (k : K) (value : X) (name : List ℕ)
    → lookup (same name) (seen_by f (insert_entry (λ a b. slice_cmp nat_cmp (f a) (f b)) es k value)) ≡ (if same name (f k) then Some value else lookup (same name) (seen_by f es))
lookup-inserted f [] k value name = refl
lookup-inserted f (e ∷ es) k value name = by (slice_cmp nat_cmp (f k) (f e.0)) (texts_ties (f k) (f e.0)) (lookup-inserted f es k value name)
  where
    by : (o : Ordering) → same (f k) (f e.0) ≡ is_eq o
        → lookup (same name) (seen_by f (insert_entry (λ a b. slice_cmp nat_cmp (f a) (f b)) es k value)) ≡ (if same name (f k) then Some value else lookup (same name) (seen_by f es))
        → lookup (same name) (seen_by f (match_ordering o ((k, value) ∷ e ∷ es) ((e.0, value) ∷ es) (e ∷ insert_entry (λ a b. slice_cmp nat_cmp (f a) (f b)) es k value))) ≡ (if same name (f k) then Some value else lookup (same name) (seen_by f (e ∷ es)))
    by Less is rest = refl
    by Equal is rest = rw (same_text (f k) (f e.0) (sym is)) (cases (same name (f e.0)))
      where
        cases : (c : Bool) → cond c (Some value) (lookup (same name) (seen_by f es)) ≡ (if c then Some value else cond c (Some e.1) (lookup (same name) (seen_by f es)))
        cases true = refl
        cases false = refl
    by Greater is rest = rw rest (cases (same name (f k)) refl (same name (f e.0)) refl)
      where
        cases : (c : Bool) → same name (f k) ≡ c → (d : Bool) → same name (f e.0) ≡ d
            → cond d (Some e.1) (if c then Some value else lookup (same name) (seen_by f es)) ≡ (if c then Some value else cond d (Some e.1) (lookup (same name) (seen_by f es)))
        cases true one true two = (let alike : f k ≡ f e.0 = sym (same_text name (f k) (sym one)) ∙ same_text name (f e.0) (sym two) in let h : same (f k) (f e.0) ≡ true = rw alike (nat_list_eq_equiv.refl (f e.0)) in cc)
        cases true one false two = refl
        cases false one d two = refl

-- a name that neither table has is added to both alike
pub HasSame-added : (names others after : List (List ℕ × Meaning)) (other : List ℕ) (meaning : Meaning) → HasSame names others → meaning_in names other ≡ None
    → ((name : List ℕ) → meaning_in after name ≡ (if same name other then Some meaning else meaning_in others name)) → HasSame (names ++ (other, meaning) ∷ []) after
HasSame-added names others after other meaning h none is =
    record { same_meaning = λ name. is name ∙ by name (same name other) refl ∙ sym (lookup-append (same name) names ((other, meaning) ∷ [])) }
  where
    by : (name : List ℕ) (b : Bool) → same name other ≡ b → (if b then Some meaning else meaning_in others name) ≡ (meaning_in names name or_else cond b (Some meaning) None)
    by name true e = rw (same-lookup name other names e, none) refl
    by name false e = rw (h.same_meaning name) (or_else-None (meaning_in names name))
      where
        or_else-None : (o : Option Meaning) → o ≡ (o or_else None)
        or_else-None None = refl
        or_else-None (Some x) = refl
