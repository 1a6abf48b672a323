-- How the answers to names are collected, name by name of the table.
use Rattle.std.proofs.Common.{◌≡◌, ℕ, ◌+◌, ◌<◌, Bool, true, false, ◌||◌, cond, List, [], ◌∷◌, ◌++◌, length, take, slice_get, Option, Some, None, IsSomeAnd, refl, sym, ◌∙◌, ap, if◌then◌else◌}
use Rattle.std.specs.Map.{lookup}
use Rattle.std.specs.Cmp.Lexicographic.{same_text}
use Rattle.std.proofs.lemmas.List.{take_more}
use Rattle.std.proofs.lemmas.List.Folds.{list_any-append}
use Rattle.std.proofs.lemmas.Option.{get_or_from_slice_get, slice_get_within}
use Rattle.faults.specs.First.{◌or_else◌}
use Rattle.symbols.specs.declared.names.Meaning.{Meaning}
use Rattle.symbols.specs.declared.place.Answer.{Answer}
use Rattle.symbols.specs.Parts.{same}
use Rattle.symbols.specs.Wanted.{Given, import_of}
use Rattle.symbols.specs.Resolution.{name_place, definition_or_import, answer_at, answer_of}
use Rattle.symbols.specs.Names.{HoldsMeanings, meaning_in}
use Rattle.symbols.specs.Rows.{AddsAnswer, SetsAnswer, HasAnswers, HasAnswersAmong, is_among}
use Rattle.symbols.proofs.DefinitionsThere.{is_meaning}

or_else-same : {A : Type 0} (o : Option A) → (o or_else o) ≡ o
or_else-same None = refl
or_else-same (Some x) = refl

or_else-None : {A : Type 0} (o : Option A) → (o or_else None) ≡ o
or_else-None None = refl
or_else-None (Some x) = refl

same_answer : (given : Given) (name other : List ℕ) → same name other ≡ true → answer_of given name ≡ answer_of given other
same_answer given name other e = ap (answer_of given) (same_text name other (sym e))

-- where the name has an answer
pub AddsAnswer-some : (given : Given) (other : List ℕ) (old new : List (List ℕ × Answer)) (answer : Answer) → answer_of given other ≡ Some answer → SetsAnswer other answer old new → AddsAnswer given other old new
AddsAnswer-some given other old new answer has is name =
    is name ∙ by (same name other) refl
  where
    by : (b : Bool) → same name other ≡ b → (if b then Some answer else lookup (same name) old) ≡ (if b then answer_of given name or_else lookup (same name) old else lookup (same name) old)
    by true e = sym (ap (λ o. o or_else lookup (same name) old) (same_answer given name other e ∙ has))
    by false e = refl

-- where it has none
pub AddsAnswer-none : (given : Given) (other : List ℕ) (answers : List (List ℕ × Answer)) → answer_of given other ≡ None → AddsAnswer given other answers answers
AddsAnswer-none given other answers has name = by (same name other) refl
  where
    by : (b : Bool) → same name other ≡ b → lookup (same name) answers ≡ (if b then answer_of given name or_else lookup (same name) answers else lookup (same name) answers)
    by true e = sym (ap (λ o. o or_else lookup (same name) answers) (same_answer given name other e ∙ has))
    by false e = refl

is_among-more : (names : List (List ℕ × Meaning)) (at : ℕ) (e : List ℕ × Meaning) (name : List ℕ) → slice_get names at ≡ Some e → is_among (take (at + 1) names) name ≡ (is_among (take at names) name || same name e.0)
is_among-more names at e name here =
    let within : at < length names = slice_get_within names at e here in
    ap (λ l. is_among l name) (take_more names at e within ∙ ap (λ y. take at names ++ y ∷ []) (get_or_from_slice_get names at e e here))
    ∙ list_any-append (λ y. same name y.0) (take at names) (e ∷ [])
    ∙ ap (λ b. is_among (take at names) name || b) (or-false (same name e.0))
  where
    or-false : (b : Bool) → (b || false) ≡ b
    or-false true = refl
    or-false false = refl

-- one more name
HasAnswersAmong-more : (given : Given) (names : List (List ℕ × Meaning)) (at : ℕ) (e : List ℕ × Meaning) (old new : List (List ℕ × Answer)) → slice_get names at ≡ Some e
    → HasAnswersAmong given (take at names) old → AddsAnswer given e.0 old new → HasAnswersAmong given (take (at + 1) names) new
HasAnswersAmong-more given names at e old new here before step name =
    step name ∙ by (same name e.0) (is_among (take at names) name) (before name) ∙ ap (λ b. if b then answer_of given name else None) (sym (is_among-more names at e name here))
  where
    by : (b a : Bool) → lookup (same name) old ≡ (if a then answer_of given name else None)
        → (if b then answer_of given name or_else lookup (same name) old else lookup (same name) old) ≡ (if (a || b) then answer_of given name else None)
    by true true has = rw has (or_else-same (answer_of given name))
    by true false has = rw has (or_else-None (answer_of given name))
    by false true has = has
    by false false has = has

pub HasAnswersAmong-next : (given : Given) (names : List (List ℕ × Meaning)) (at : ℕ) (other : List ℕ) (old new : List (List ℕ × Answer)) → IsSomeAnd (slice_get names at) (λ e. e.0 ≡ other)
    → HasAnswersAmong given (take at names) old → AddsAnswer given other old new → HasAnswersAmong given (take (at + 1) names) new
HasAnswersAmong-next given names at other old new here before step = by (slice_get names at) refl here
  where
    by : (o : Option (List ℕ × Meaning)) → slice_get names at ≡ o → IsSomeAnd o (λ e. e.0 ≡ other) → HasAnswersAmong given (take (at + 1) names) new
    by None is named = absurd named
    by (Some e) is named = HasAnswersAmong-more given names at e old new is before (rw named step)

-- a name that isn't among these has no meaning there
unknown : (names : List (List ℕ × Meaning)) (name : List ℕ) → is_among names name ≡ false → meaning_in names name ≡ None
unknown [] name e = refl
unknown (n ∷ names) name e = by (same name n.0) e (unknown names name)
  where
    by : (b : Bool) → (b || is_among names name) ≡ false → (is_among names name ≡ false → meaning_in names name ≡ None) → cond b (Some n.1) (meaning_in names name) ≡ None
    by true is rest = cc
    by false is rest = rest is

-- all names
pub HasAnswers-all : (given : Given) (names : List (List ℕ × Meaning)) (answers : List (List ℕ × Answer)) → HoldsMeanings given names → HasAnswersAmong given names answers → HasAnswers given answers
unfolding name_place
HasAnswers-all given names answers holds has name = has name ∙ by (is_among names name) refl
  where
    by : (b : Bool) → is_among names name ≡ b → (if b then answer_of given name else None) ≡ answer_of given name
    by true e = refl
    by false e = (let none = is_meaning given name None (sym (holds.meanings_are name) ∙ unknown names name e) in sym (ap answer_at (ap (λ d. definition_or_import given.objects d (import_of given.wanted name)) none.0 ∙ ap (definition_or_import given.objects None) none.1)))
