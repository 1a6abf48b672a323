-- How marks are added: one by one, and then those of a list and of the lists of a list.
use Rattle.std.proofs.Common.{◌≡◌, ℕ, ◌+◌, ◌<◌, ◌≤◌, Bool, true, false, ◌||◌, ◌&&◌, nat_eq, List, [], ◌∷◌, ◌++◌, length, get_or, take, slice_get, Some, refl, sym, ◌∙◌, ap, inl, inr, arith}
use Rattle.std.proofs.Math.ListN.{set}
use Rattle.std.proofs.Math.Bool.{or_assoc}
use Rattle.std.specs.List.{list_any}
use Rattle.std.proofs.lemmas.List.{take_more, get_or-set_same, get_or-set_other}
use Rattle.std.proofs.lemmas.List.Folds.{list_any-append}
use Rattle.std.proofs.lemmas.Option.{get_or_from_slice_get, slice_get_within, slice_get-get_or}
use Rattle.std.proofs.lemmas.Bool.{eqb-true}
use Rattle.std.proofs.lemmas.Bool.Decides.{eqb_tells}
use Rattle.elf_objects.specs.declared.parts.Relocation.{Relocation}
use Rattle.elf_objects.specs.declared.parts.SectionKind.TheVariants as kinds
use Rattle.elf_objects.specs.Objects.{Section}
use Rattle.symbols.specs.Faults.{has_effect, names_symbol, is_named_in}
use Rattle.symbols.specs.Names.{AddsMarks, mark_at, is_named_by}

or-false : (b : Bool) → b ≡ (b || false)
or-false true = refl
or-false false = refl

or-true : (b : Bool) → true ≡ (b || true)
or-true true = refl
or-true false = refl

-- nothing is added where the relocation has no effect
pub AddsMarks-no_effect : (marks : List Bool) (relocation : Relocation) → has_effect relocation.kind ≡ false → AddsMarks marks marks (λ number. names_symbol number relocation)
AddsMarks-no_effect marks relocation e number lt = rw e (or-false (mark_at marks number))

-- nor if it names a symbol after the last
pub AddsMarks-past : (marks : List Bool) (relocation : Relocation) → length marks ≤ relocation.symbol → AddsMarks marks marks (λ number. names_symbol number relocation)
AddsMarks-past marks relocation le number lt = by (has_effect relocation.kind) (nat_eq relocation.symbol number) refl
  where
    by : (effect b : Bool) → nat_eq relocation.symbol number ≡ b → mark_at marks number ≡ (mark_at marks number || effect && b)
    by true true e = (let same : relocation.symbol ≡ number = eqb-true relocation.symbol number e in absurd (omega arith))
    by true false e = or-false (mark_at marks number)
    by false b e = or-false (mark_at marks number)

-- the mark of the symbol that it names
pub AddsMarks-set : (marks : List Bool) (relocation : Relocation) → has_effect relocation.kind ≡ true → relocation.symbol < length marks → AddsMarks marks (set marks relocation.symbol true) (λ number. names_symbol number relocation)
AddsMarks-set marks relocation effect within number lt =
    elim (eqb_tells relocation.symbol number) [
      | inl t ↦ rw (effect, t.0, ← t.1) (get_or-set_same marks relocation.symbol true false within ∙ or-true (get_or marks relocation.symbol false))
      | inr f ↦ rw (effect, f.0) (get_or-set_other marks relocation.symbol number true false (λ same. f.1 (sym same)) ∙ or-false (get_or marks number false))
    ]

-- one more of a list
pub AddsMarks-more : {X : Type 0} (old so_far new : List Bool) (test : ℕ → X → Bool) (xs : List X) (at : ℕ) (x : X)
    → length so_far ≡ length old → slice_get xs at ≡ Some x → AddsMarks old so_far (λ number. list_any (test number) (take at xs)) → AddsMarks so_far new (λ number. test number x)
    → AddsMarks old new (λ number. list_any (test number) (take (at + 1) xs))
AddsMarks-more old so_far new test xs at x len here before step number lt =
    let lt' : number < length so_far = omega arith in
    let within : at < length xs = slice_get_within xs at x here in
    step number lt' ∙ ap (λ b. b || test number x) (before number lt)
    ∙ or_assoc (mark_at old number) (list_any (test number) (take at xs)) (test number x)
    ∙ ap (λ b. mark_at old number || b) (ap (λ b. list_any (test number) (take at xs) || b) (or-false (test number x)) ∙ sym (list_any-append (test number) (take at xs) (x ∷ [])) ∙ sym (ap (list_any (test number)) (take_more xs at x within ∙ ap (λ y. take at xs ++ y ∷ []) (get_or_from_slice_get xs at x x here))))

no_section : Section
no_section = record { name = []; kind = kinds.Unloaded; size = 0; align = 0; content = []; relocations = [] }

-- one more section of an object
pub AddsMarks-section : (old so_far new : List Bool) (sections : List Section) (at : ℕ) → at < length sections → length so_far ≡ length old
    → AddsMarks old so_far (λ number. list_any (is_named_in number) (take at sections)) → AddsMarks so_far new (is_named_by (slice_get sections at))
    → AddsMarks old new (λ number. list_any (is_named_in number) (take (at + 1) sections))
AddsMarks-section old so_far new sections at lt len before step =
    let here = slice_get-get_or sections at no_section lt in
    AddsMarks-more old so_far new is_named_in sections at (get_or sections at no_section) len here before (rw here at step)
