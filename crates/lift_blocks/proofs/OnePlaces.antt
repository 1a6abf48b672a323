-- No place is twice among all places.
use Rattle.std.proofs.Common.{◌≡◌, ℕ, zero, suc, ◌+◌, ◌/◌, ◌<◌, ◌≤◌, Bool, true, false, cond, List, [], ◌∷◌, ◌++◌, length, Option, Some, None, refl, sym, ap, ◌∙◌, arith}
use Rattle.std.specs.Prelude.{slice_get, if◌then◌else◌, not}
use Rattle.std.specs.List.{AllByRecursion, filter, list_any}
use Rattle.faults.specs.Present.{each_below}
use Rattle.symbols.specs.Parts.{object_at}
use Rattle.symbols.specs.Wanted.{Given}
use Rattle.relocs.specs.Places.{CodePlace, Code, Stub, Nowhere, code_at, offsets_from, section_offsets, code_offsets}
use Rattle.relocs.specs.Pairs.{is_second, is_import, is_absent, named_by, import_stub, trap_stub, trap_stubs, stub_places, all_places}
use Rattle.relocs.specs.Kinds.{names_target}
use Rattle.symbols.specs.Faults.{has_effect}
use Rattle.lift_blocks.specs.Listed.{is_emitted, code_places}

-- no element is twice in a list
abbrev pub IsOnce : {A : Type 0} → List A → Type 0
IsOnce [] = Unit {0}
IsOnce (x ∷ xs) = AllByRecursion (λ y. x ≡ y → ⊥) xs × IsOnce xs

-- ---- lists

pub all_append : {A : Type 0} (P : A → Type 0) (xs ys : List A) → AllByRecursion P xs → AllByRecursion P ys → AllByRecursion P (xs ++ ys)
all_append P [] ys f g = g
all_append P (x ∷ xs) ys f g = (f.0, all_append P xs ys f.1 g)

pub all_weaker : {A : Type 0} (P Q : A → Type 0) (xs : List A) → ((x : A) → P x → Q x) → AllByRecursion P xs → AllByRecursion Q xs
all_weaker P Q [] h f = tt
all_weaker P Q (x ∷ xs) h f = (h x f.0, all_weaker P Q xs h f.1)

pub all_filter : {A : Type 0} (P : A → Type 0) (test : A → Bool) (xs : List A) → AllByRecursion P xs → AllByRecursion P (filter test xs)
all_filter P test [] f = tt
all_filter P test (x ∷ xs) f = by_test (test x) (all_filter P test xs f.1)
  where
    by_test : (b : Bool) → AllByRecursion P (filter test xs) → AllByRecursion P (cond b (x ∷ filter test xs) (filter test xs))
    by_test true g = (f.0, g)
    by_test false g = g

once_filter : {A : Type 0} (test : A → Bool) (xs : List A) → IsOnce xs → IsOnce (filter test xs)
once_filter test [] f = tt
once_filter test (x ∷ xs) f = by_test (test x) (all_filter (λ y. x ≡ y → ⊥) test xs f.0) (once_filter test xs f.1)
  where
    by_test : (b : Bool) → AllByRecursion (λ y. x ≡ y → ⊥) (filter test xs) → IsOnce (filter test xs) → IsOnce (cond b (x ∷ filter test xs) (filter test xs))
    by_test true g h = (g, h)
    by_test false g h = h

-- elements that differ by what holds of them
once_append : {A : Type 0} (P Q : A → Type 0) (xs ys : List A) → AllByRecursion P xs → AllByRecursion Q ys → ((x : A) → P x → Q x → ⊥) → IsOnce xs → IsOnce ys → IsOnce (xs ++ ys)
once_append P Q [] ys f g h a b = b
once_append P Q (x ∷ xs) ys f g h a b =
    (all_append (λ y. x ≡ y → ⊥) xs ys a.0 (all_weaker Q (λ y. x ≡ y → ⊥) ys (λ y q e. h y (rw (sym e) f.0) q) g), once_append P Q xs ys f.1 g h a.1 b)

pub all_each : {A : Type 0} (P : A → Type 0) (n : ℕ) (at : ℕ → List A) → ((i : ℕ) → i < n → AllByRecursion P (at i)) → AllByRecursion P (each_below n at)
unfolding each_below
all_each P zero at f = tt
all_each P (suc n) at f = all_append P (each_below n at) (at n) (all_each P n at (λ i lt. f i (omega (arith, lt)))) (f n (omega arith))

-- lists whose elements have the list's number as their key
once_each : {A : Type 0} (key : A → ℕ) (n : ℕ) (at : ℕ → List A) → ((i : ℕ) → AllByRecursion (λ x. key x ≡ i) (at i)) → ((i : ℕ) → IsOnce (at i)) → IsOnce (each_below n at)
unfolding each_below
once_each key zero at f g = tt
once_each key (suc n) at f g =
    once_append (λ x. key x < n) (λ x. key x ≡ n) (each_below n at) (at n)
    (all_each (λ x. key x < n) n at (λ i lt. all_weaker (λ x. key x ≡ i) (λ x. key x < n) (at i) (λ x e. omega (arith, e, lt)) (f i)))
    (f n) (λ x lt e. omega (arith, lt, e)) (once_each key n at f g) (g n)

-- ---- places

abbrev object_of : CodePlace → ℕ
object_of (Code o s offset) = o
object_of (Stub n at) = 0
object_of Nowhere = 0

abbrev section_of : CodePlace → ℕ
section_of (Code o s offset) = s
section_of (Stub n at) = 0
section_of Nowhere = 0

abbrev offset_of : CodePlace → ℕ
offset_of (Code o s offset) = offset
offset_of (Stub n at) = 0
offset_of Nowhere = 0

abbrev stub_of : CodePlace → ℕ
stub_of (Code o s offset) = 0
stub_of (Stub n at) = n
stub_of Nowhere = 0

-- it is a place of code, or of a stub
abbrev pub IsCode : CodePlace → Type 0
IsCode (Code o s offset) = Unit {0}
IsCode (Stub n at) = ⊥
IsCode Nowhere = ⊥

abbrev IsStub : CodePlace → Type 0
IsStub (Code o s offset) = ⊥
IsStub (Stub n at) = Unit {0}
IsStub Nowhere = ⊥

record IsFrom (o s least : ℕ) (p : CodePlace) : Type 0 where
  object : object_of p ≡ o
  section : section_of p ≡ s
  offset : least ≤ offset_of p
  code : IsCode p

all_from : (o s offset count : ℕ) → AllByRecursion (IsFrom o s offset) (offsets_from o s offset count)
all_from o s offset zero = tt
all_from o s offset (suc count) = (
  record { object = refl; section = refl; offset = omega arith; code = tt },
  all_weaker (IsFrom o s (offset + 4)) (IsFrom o s offset) (offsets_from o s (offset + 4) count) (λ p f. record { object = f.object; section = f.section; offset = omega (arith, f.offset); code = f.code }) (all_from o s (offset + 4) count),
)

once_from : (o s offset count : ℕ) → IsOnce (offsets_from o s offset count)
once_from o s offset zero = tt
once_from o s offset (suc count) = (
  all_weaker (IsFrom o s (offset + 4)) (λ q. Code o s offset ≡ q → ⊥) (offsets_from o s (offset + 4) count) (λ q f e. omega (arith, f.offset, ap offset_of e)) (all_from o s (offset + 4) count),
  once_from o s (offset + 4) count,
)

all_section : (o s : ℕ) (code : Option (List ℕ)) → AllByRecursion (IsFrom o s 0) (section_offsets code o s)
all_section o s None = tt
all_section o s (Some bytes) = all_from o s 0 (length bytes / 4 + 1)

once_section : (o s : ℕ) (code : Option (List ℕ)) → IsOnce (section_offsets code o s)
once_section o s None = tt
once_section o s (Some bytes) = once_from o s 0 (length bytes / 4 + 1)

module _ (given : Given) where
  abbrev object_offsets : ℕ → List CodePlace
  object_offsets o = each_below (length (object_at given.objects o).sections) (λ s. section_offsets (code_at given o s) o s)

  once_object : (o : ℕ) → IsOnce (object_offsets o)
  once_object o =
      once_each section_of (length (object_at given.objects o).sections) (λ s. section_offsets (code_at given o s) o s)
      (λ s. all_weaker (IsFrom o s 0) (λ p. section_of p ≡ s) (section_offsets (code_at given o s) o s) (λ p f. f.section) (all_section o s (code_at given o s)))
      (λ s. once_section o s (code_at given o s))

  all_object : (P : CodePlace → Type 0) (o : ℕ) → ((s : ℕ) (p : CodePlace) → IsFrom o s 0 p → P p) → AllByRecursion P (object_offsets o)
  all_object P o h =
      all_each P (length (object_at given.objects o).sections) (λ s. section_offsets (code_at given o s) o s)
      (λ s lt. all_weaker (IsFrom o s 0) P (section_offsets (code_at given o s) o s) (h s) (all_section o s (code_at given o s)))

  once_offsets : IsOnce (code_offsets given)
  once_offsets =
      once_each object_of (length given.objects) object_offsets (λ o. all_object (λ p. object_of p ≡ o) o (λ s p f. f.object)) once_object

  pub all_code : AllByRecursion IsCode (code_offsets given)
  all_code = all_each IsCode (length given.objects) object_offsets (λ o lt. all_object IsCode o (λ s p f. f.code))

  -- stubs
  all_import : (P : CodePlace → Type 0) (i : ℕ) → P (Stub i 0) → P (Stub i 1) → AllByRecursion P (import_stub given i)
  all_import P i f g = by_named (list_any (is_import i) (named_by (λ r. has_effect r.kind) given))
    where
      by_named : (b : Bool) → AllByRecursion P (if b then Stub i 0 ∷ Stub i 1 ∷ [] else [])
      by_named true = (f, (g, tt))
      by_named false = tt

  once_import : (i : ℕ) → IsOnce (import_stub given i)
  once_import i = by_named (list_any (is_import i) (named_by (λ r. has_effect r.kind) given))
    where
      by_named : (b : Bool) → IsOnce (if b then Stub i 0 ∷ Stub i 1 ∷ [] else [])
      by_named true = ((λ e. absurd cc, tt), (tt, tt))
      by_named false = tt

  all_trap : (P : CodePlace → Type 0) → P (trap_stub given) → AllByRecursion P (trap_stubs given)
  all_trap P f = by_named (list_any is_absent (named_by names_target given))
    where
      by_named : (b : Bool) → AllByRecursion P (if b then trap_stub given ∷ [] else [])
      by_named true = (f, tt)
      by_named false = tt

  once_trap : IsOnce (trap_stubs given)
  once_trap = by_named (list_any is_absent (named_by names_target given))
    where
      by_named : (b : Bool) → IsOnce (if b then trap_stub given ∷ [] else [])
      by_named true = (tt, tt)
      by_named false = tt

  abbrev imports : ℕ
  imports = length given.wanted.imports

  once_stubs : IsOnce (stub_places given)
  once_stubs =
      once_append (λ p. stub_of p < imports) (λ p. stub_of p ≡ imports) (each_below imports (import_stub given)) (trap_stubs given)
      (all_each (λ p. stub_of p < imports) imports (import_stub given) (λ i lt. all_import (λ p. stub_of p < imports) i lt lt))
      (all_trap (λ p. stub_of p ≡ imports) refl) (λ p lt e. omega (arith, lt, e))
      (once_each stub_of imports (import_stub given) (λ i. all_import (λ p. stub_of p ≡ i) i refl refl) once_import) once_trap

  all_stubs : AllByRecursion IsStub (stub_places given)
  all_stubs =
      all_append IsStub (each_below imports (import_stub given)) (trap_stubs given) (all_each IsStub imports (import_stub given) (λ i lt. all_import IsStub i tt tt)) (all_trap IsStub tt)

  code_or_stub : (p : CodePlace) → IsCode p → IsStub p → ⊥
  code_or_stub (Code o s offset) f g = g
  code_or_stub (Stub n at) f g = f
  code_or_stub Nowhere f g = f

  pub once_all : IsOnce (all_places given)
  unfolding all_places
  once_all =
      once_append IsCode IsStub (filter (λ p. not (is_second given p)) (code_offsets given)) (stub_places given)
      (all_filter IsCode (λ p. not (is_second given p)) (code_offsets given) all_code) all_stubs code_or_stub
      (once_filter (λ p. not (is_second given p)) (code_offsets given) once_offsets) once_stubs

  pub once_code : IsOnce (code_places given)
  unfolding code_places
  once_code = once_filter (is_emitted given) (all_places given) once_all

-- where no element is twice, an element has one index
not_there : {A : Type 0} (x : A) (xs : List A) (i : ℕ) → AllByRecursion (λ y. x ≡ y → ⊥) xs → slice_get xs i ≡ Some x → ⊥
not_there x [] i f e = absurd cc
not_there x (y ∷ xs) zero f e = (let same : y ≡ x = cc in f.0 (sym same))
not_there x (y ∷ xs) (suc i) f e = not_there x xs i f.1 e

pub one_index : {A : Type 0} (xs : List A) (x : A) (i j : ℕ) → IsOnce xs → slice_get xs i ≡ Some x → slice_get xs j ≡ Some x → i ≡ j
one_index [] x i j f e g = absurd cc
one_index (y ∷ xs) x zero zero f e g = refl
one_index (y ∷ xs) x zero (suc j) f e g = (let same : y ≡ x = cc in absurd (not_there y xs j f.0 (g ∙ ap Some (sym same))))
one_index (y ∷ xs) x (suc i) zero f e g = (let same : y ≡ x = cc in absurd (not_there y xs i f.0 (e ∙ ap Some (sym same))))
one_index (y ∷ xs) x (suc i) (suc j) f e g = ap suc (one_index xs x i j f.1 e g)
