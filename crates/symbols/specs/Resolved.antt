-- What every symbol and every entry of a link stands for, as it is kept.
use Rattle.std.specs.Prelude.{◌≡◌, ℕ, ◌<◌, List, [], length, slice_get, unwrap_or, Option, Some}
use Rattle.std.specs.Map.{lookup}
use Rattle.symbols.specs.declared.place.Place.{Place}
use Rattle.symbols.specs.declared.place.Answer.{Answer}
use Rattle.symbols.specs.Parts.{same, symbol_count}
use Rattle.symbols.specs.Wanted.{Given}
use Rattle.symbols.specs.Resolution.{resolution, entry_place, answer_of}

-- the places of the symbols of each object, those of the entries, and the names that stand for a number or an import
pub record Resolved : Type 0 where
  pub symbols : List (List Place)
  pub entries : List Place
  pub answers : List (List ℕ × Answer)

-- the place of a symbol by its object's number and its own
abbrev pub place_in : Resolved → ℕ → ℕ → Option Place
place_in resolved object number = slice_get (unwrap_or (slice_get resolved.symbols object) []) number

-- what a name stands for, where that is a number or an import
abbrev pub answer_in : Resolved → List ℕ → Option Answer
answer_in resolved name = lookup (same name) resolved.answers

-- they are what the resolution of the objects and wanted names gives
pub record IsResolved (given : Given) (resolved : Resolved) : Type 0 where
  pub symbols_are : (object number : ℕ) → object < length given.objects → number < symbol_count given.objects object → place_in resolved object number ≡ Some (resolution given object number)
  pub entries_are : (entry : ℕ) → entry < length given.wanted.entries → slice_get resolved.entries entry ≡ Some (entry_place given entry)
  pub answers_are : (name : List ℕ) → answer_in resolved name ≡ answer_of given name
