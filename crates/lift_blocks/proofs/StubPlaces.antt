-- The places of stubs among all places.
use Rattle.std.proofs.Common.{◌≡◌, ℕ, zero, suc, ◌+◌, ◌<◌, ◌≤◌, Bool, true, false, cond, List, [], ◌∷◌, ◌++◌, length, Option, Some, None, refl, sym, ◌∙◌, arith, inl, inr, ◌⊎◌}
use Rattle.std.specs.Prelude.{if◌then◌else◌, not, ◌&&◌, ◌||◌, ◌/◌, nat_eq}
use Rattle.std.specs.List.{list_any, filter}
use Rattle.std.proofs.lemmas.Bool.{eqb-true}
use Rattle.std.proofs.lemmas.List.Folds.{list_any-append}
use Rattle.faults.specs.Present.{each_below}
use Rattle.symbols.specs.Faults.{has_effect}
use Rattle.symbols.specs.Parts.{object_at}
use Rattle.symbols.specs.Wanted.{Given, kept_objects}
use Rattle.relocs.specs.Kinds.{names_target}
use Rattle.relocs.specs.Places.{CodePlace, Stub, same_place, code_at, offsets_from, section_offsets, code_offsets}
use Rattle.relocs.specs.Pairs.{is_second, is_import, is_absent, named_by, import_stub, trap_stubs, stub_places, all_places, is_place}
use Rattle.lift_blocks.proofs.Faultless.{and_left, and_right}

or_cases : (a b : Bool) → (a || b) ≡ true → (a ≡ true) ⊎ (b ≡ true)
or_cases true b e = inl refl
or_cases false b e = inr e

any_either : {A : Type 0} (test : A → Bool) (xs ys : List A) → list_any test (xs ++ ys) ≡ true → (list_any test xs ≡ true) ⊎ (list_any test ys ≡ true)
any_either test xs ys e = or_cases (list_any test xs) (list_any test ys) (sym (list_any-append test xs ys) ∙ e)

-- what is among several lists is in one
pub any_each : {A : Type 0} (test : A → Bool) (n : ℕ) (at : ℕ → List A) → list_any test (each_below n at) ≡ true → (i : ℕ) × (i < n) × (list_any test (at i) ≡ true)
unfolding each_below
any_each test zero at e = absurd cc
any_each test (suc n) at e =
    elim (any_either test (each_below n at) (at n) e) [
      | inl before ↦ (let r = any_each test n at before in (r.0, omega (arith, r.1), r.2))
      | inr last ↦ (n, omega arith, last)
    ]

any_filter : {A : Type 0} (test t : A → Bool) (xs : List A) → list_any test (filter t xs) ≡ true → list_any test xs ≡ true
any_filter test t [] e = e
any_filter {A} test t (x ∷ xs) e = by_test (t x) (any_filter test t xs) e
  where
    or_true : (b : Bool) → (b || true) ≡ true
    or_true true = refl
    or_true false = refl

    later : (b : Bool) → list_any test xs ≡ true → (b || list_any test xs) ≡ true
    later true h = refl
    later false h = h

    keep : (b : Bool) → (list_any test (filter t xs) ≡ true → list_any test xs ≡ true) → (b || list_any test (filter t xs)) ≡ true → (b || list_any test xs) ≡ true
    keep true more h = refl
    keep false more h = more h

    by_test : (b : Bool) → (list_any test (filter t xs) ≡ true → list_any test xs ≡ true) → list_any test (cond b (x ∷ filter t xs) (filter t xs)) ≡ true → list_any test (x ∷ xs) ≡ true
    by_test true more h = keep (test x) more h
    by_test false more h = later (test x) (more h)

-- ---- stubs are no code

no_offset : (n at o s f count : ℕ) → list_any (same_place (Stub n at)) (offsets_from o s f count) ≡ true → ⊥
no_offset n at o s f zero e = absurd cc
no_offset n at o s f (suc count) e = no_offset n at o s (f + 4) count e

no_section : (n at o s : ℕ) (code : Option (List ℕ)) → list_any (same_place (Stub n at)) (section_offsets code o s) ≡ true → ⊥
no_section n at o s None e = absurd cc
no_section n at o s (Some bytes) e = no_offset n at o s 0 (length bytes / 4 + 1) e

no_code : (given : Given) (n at : ℕ) → list_any (same_place (Stub n at)) (code_offsets given) ≡ true → ⊥
no_code given n at e =
    let object = any_each (same_place (Stub n at)) (length (kept_objects given)) (λ o. each_below (length (object_at (kept_objects given) o).sections) (λ s. section_offsets (code_at given o s) o s)) e in
    let section = any_each (same_place (Stub n at)) (length (object_at (kept_objects given) object.0).sections) (λ s. section_offsets (code_at given object.0 s) object.0 s) object.2 in
    no_section n at object.0 section.0 (code_at given object.0 section.0) section.2

-- ---- which stubs are places

same_numbers : (n m : ℕ) → nat_eq n m ≡ true → n ≡ m
same_numbers n m e = eqb-true n m e

two_places : (n at i : ℕ) (b : Bool) → list_any (same_place (Stub n at)) (if b then Stub i 0 ∷ Stub i 1 ∷ [] else []) ≡ true → (n ≡ i) × (at < 2)
two_places n at i false e = absurd cc
two_places n at i true e =
    elim (or_cases (nat_eq n i && nat_eq at 0) ((nat_eq n i && nat_eq at 1) || false) e) [
      | inl first ↦ (let zero_is = same_numbers at 0 (and_right (nat_eq n i) (nat_eq at 0) first) in (same_numbers n i (and_left (nat_eq n i) (nat_eq at 0) first), omega (arith, zero_is)))
      | inr rest ↦
          elim (or_cases (nat_eq n i && nat_eq at 1) false rest) [
            | inl second ↦ (let one_is = same_numbers at 1 (and_right (nat_eq n i) (nat_eq at 1) second) in (same_numbers n i (and_left (nat_eq n i) (nat_eq at 1) second), omega (arith, one_is)))
            | inr none ↦ absurd cc
          ]
    ]

one_place : (n at count : ℕ) (b : Bool) → list_any (same_place (Stub n at)) (if b then Stub count 0 ∷ [] else []) ≡ true → (n ≡ count) × (at ≡ 0)
one_place n at count false e = absurd cc
one_place n at count true e =
    elim (or_cases (nat_eq n count && nat_eq at 0) false e) [
      | inl here ↦ (same_numbers n count (and_left (nat_eq n count) (nat_eq at 0) here), same_numbers at 0 (and_right (nat_eq n count) (nat_eq at 0) here))
      | inr none ↦ absurd cc
    ]

stub_cases : (given : Given) (n at : ℕ) → is_place given (Stub n at) ≡ true → ((n < length given.wanted.imports) × (at < 2)) ⊎ ((n ≡ length given.wanted.imports) × (at ≡ 0))
unfolding all_places
stub_cases given n at e =
    let test : CodePlace → Bool = same_place (Stub n at) in
    elim (any_either test (filter (λ p. not (is_second given p)) (code_offsets given)) (stub_places given) e) [
      | inl code ↦ absurd (no_code given n at (any_filter test (λ p. not (is_second given p)) (code_offsets given) code))
      | inr stub ↦
          elim (any_either test (each_below (length given.wanted.imports) (import_stub given)) (trap_stubs given) stub) [
            | inl import ↦
                (let found = any_each test (length given.wanted.imports) (import_stub given) import in
                let two = two_places n at found.0 (list_any (is_import found.0) (named_by (λ r. has_effect r.kind) given)) found.2 in
                inl (omega (arith, two.0, found.1), two.1))
            | inr trap ↦ inr (one_place n at (length given.wanted.imports) (list_any is_absent (named_by names_target given)) trap)
          ]
    ]

-- an import's stub has two places
pub stub_of_import : (given : Given) (n at : ℕ) → is_place given (Stub n at) ≡ true → n < length given.wanted.imports → at < 2
stub_of_import given n at e lt = elim (stub_cases given n at e) [ inl import ↦ import.1 | inr trap ↦ absurd (omega (arith, trap.0, lt)) ]

-- and the stub after those of the imports has one
pub trap_is_first : (given : Given) (n at : ℕ) → is_place given (Stub n at) ≡ true → length given.wanted.imports ≤ n → (n ≡ length given.wanted.imports) × (at ≡ 0)
trap_is_first given n at e le = elim (stub_cases given n at e) [ inl import ↦ absurd (omega (arith, import.0, le)) | inr trap ↦ trap ]

pub ruleset stub_rules = (stub_of_import, trap_is_first)
