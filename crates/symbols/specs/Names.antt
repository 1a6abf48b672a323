-- The table of names that resolution goes by, and the marks of the symbols that relocations name.
use Rattle.std.specs.Prelude.{◌≡◌, ℕ, ◌<◌, List, [], ◌∷◌, ◌++◌, Bool, false, ◌||◌, length, slice_index_or, Option, Some, None, is_some, if◌then◌else◌}
use Rattle.std.specs.Option.{option_map}
use Rattle.std.specs.Map.{lookup}
use Rattle.faults.specs.First.{◌or_else◌}
use Rattle.elf_objects.specs.Objects.{Section, Object}
use Rattle.symbols.specs.declared.names.Meaning.{Meaning}
use Rattle.symbols.specs.declared.names.Meaning.TheVariants.{Defined, Imported}
use Rattle.symbols.specs.Parts.{same, object_at, symbol_at, symbol_count}
use Rattle.symbols.specs.Wanted.{Given, import_of}
use Rattle.symbols.specs.Resolution.{Definition, definition_of}
use Rattle.symbols.specs.Faults.{is_named, is_named_in}

-- what the table has for a name
abbrev pub meaning_in : List (List ℕ × Meaning) → List ℕ → Option Meaning
meaning_in names name = lookup (same name) names

-- a name is added after the others, if the table doesn't have it
abbrev pub added : List (List ℕ × Meaning) → List ℕ → Meaning → List (List ℕ × Meaning)
added names name meaning = if is_some (meaning_in names name) then names else names ++ (name, meaning) ∷ []

-- two tables have the same for each name
pub record HasSame (names others : List (List ℕ × Meaning)) : Type 0 where
  pub same_meaning : (name : List ℕ) → meaning_in others name ≡ meaning_in names name

abbrev pub defined : Definition → Meaning
defined d = Defined d.object d.number

abbrev pub imported_as : Option ℕ → Option Meaning
imported_as at = option_map Imported at

-- the new table has what the old one has, and for names that it doesn't have, these meanings
abbrev pub Adds : List (List ℕ × Meaning) → List (List ℕ × Meaning) → (List ℕ → Option Meaning) → Type 0
Adds old new more = (name : List ℕ) → meaning_in new name ≡ (meaning_in old name or_else more name)

-- what a name means: its definition, else the import of that name
abbrev pub meaning_of : Given → List ℕ → Option Meaning
meaning_of given name = option_map defined (definition_of given name) or_else imported_as (import_of given.wanted name)

abbrev pub defined_there : List Object → ℕ → ℕ → Definition
defined_there objects object number = record { object = object; number = number; symbol = symbol_at objects object number }

-- the name's definition is the symbol with these numbers
pub record IsDefinedBy (given : Given) (name : List ℕ) (object number : ℕ) : Type 0 where
  pub object_in : object < length given.objects
  pub number_in : number < symbol_count given.objects object
  pub definition_is : definition_of given name ≡ Some (defined_there given.objects object number)

-- what a name's definition and import are, by what the name means
abbrev pub IsMeaning : Given → List ℕ → Option Meaning → Type 0
IsMeaning given name None = (definition_of given name ≡ None) × (import_of given.wanted name ≡ None)
IsMeaning given name (Some (Defined object number)) = IsDefinedBy given name object number
IsMeaning given name (Some (Imported at)) = (definition_of given name ≡ None) × (import_of given.wanted name ≡ Some at)

-- the table has the meaning of every name
pub record HoldsMeanings (given : Given) (names : List (List ℕ × Meaning)) : Type 0 where
  pub meanings_are : (name : List ℕ) → meaning_in names name ≡ meaning_of given name

abbrev pub mark_at : List Bool → ℕ → Bool
mark_at marks number = slice_index_or marks number false

-- the marks that there were stay, and the numbers that pass the test are marked too
abbrev pub AddsMarks : List Bool → List Bool → (ℕ → Bool) → Type 0
AddsMarks old new test = (number : ℕ) → number < length old → mark_at new number ≡ (mark_at old number || test number)

-- a relocation of this section names the symbol
abbrev pub is_named_by : Option Section → ℕ → Bool
is_named_by None number = false
is_named_by (Some section) number = is_named_in number section

-- the marked numbers are those of the symbols that a relocation names
pub record MarksNamed (objects : List Object) (object : ℕ) (marks : List Bool) : Type 0 where
  pub count : length marks ≡ symbol_count objects object
  pub marks_are : (number : ℕ) → number < symbol_count objects object → mark_at marks number ≡ is_named (object_at objects object) number
