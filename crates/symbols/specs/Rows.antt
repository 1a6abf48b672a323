-- The places of all symbols and entries as lists, as they are computed.
use Rattle.std.specs.Prelude.{◌≡◌, ℕ, zero, suc, List, [], ◌∷◌, ◌++◌, Bool, length, if◌then◌else◌, Some, None}
use Rattle.std.specs.List.{list_any}
use Rattle.std.specs.Map.{lookup}
use Rattle.faults.specs.First.{◌or_else◌}
use Rattle.symbols.specs.declared.names.Meaning.{Meaning}
use Rattle.symbols.specs.declared.place.Place.{Place}
use Rattle.symbols.specs.declared.place.Answer.{Answer}
use Rattle.symbols.specs.Parts.{same, symbol_count}
use Rattle.symbols.specs.Wanted.{Given}
use Rattle.symbols.specs.Resolution.{resolution, entry_place, answer_of}

-- the values at 0, 1, .. below n
abbrev pub values_below : {A : Type 0} → ℕ → (ℕ → A) → List A
values_below zero at = []
values_below (suc n) at = values_below n at ++ at n ∷ []

abbrev pub places_of_object : Given → ℕ → List Place
places_of_object given object = values_below (symbol_count given.objects object) (resolution given object)

abbrev pub places_of_symbols : Given → List (List Place)
places_of_symbols given = values_below (length given.objects) (places_of_object given)

abbrev pub places_of_entries : Given → List Place
places_of_entries given = values_below (length given.wanted.entries) (entry_place given)

-- these are the answers to all names
abbrev pub HasAnswers : Given → List (List ℕ × Answer) → Type 0
HasAnswers given answers = (name : List ℕ) → lookup (same name) answers ≡ answer_of given name

-- a name is among these
abbrev pub is_among : List (List ℕ × Meaning) → List ℕ → Bool
is_among names name = list_any (λ e. same name e.0) names

-- these are the answers to the names among those
abbrev pub HasAnswersAmong : Given → List (List ℕ × Meaning) → List (List ℕ × Answer) → Type 0
HasAnswersAmong given names answers = (name : List ℕ) → lookup (same name) answers ≡ (if is_among names name then answer_of given name else None)

-- a name has this answer, and other names have what they had
abbrev pub SetsAnswer : List ℕ → Answer → List (List ℕ × Answer) → List (List ℕ × Answer) → Type 0
SetsAnswer other answer old new = (name : List ℕ) → lookup (same name) new ≡ (if same name other then Some answer else lookup (same name) old)

-- the answer to a name is added, where it has one
abbrev pub AddsAnswer : Given → List ℕ → List (List ℕ × Answer) → List (List ℕ × Answer) → Type 0
AddsAnswer given other old new = (name : List ℕ) → lookup (same name) new ≡ (if same name other then answer_of given name or_else lookup (same name) old else lookup (same name) old)
