-- What is known of every place that a symbol or an entry stands for: the sections and imports that it names are there.
use Rattle.std.specs.Prelude.{◌≡◌, ℕ, ◌<◌, List, Bool, true, false, length}
use Rattle.elf_objects.specs.declared.parts.SectionKind.{SectionKind}
use Rattle.elf_objects.specs.declared.parts.SectionKind.TheVariants as kinds
use Rattle.elf_objects.specs.Objects.{Object}
use Rattle.symbols.specs.declared.place.Place.{Place}
use Rattle.symbols.specs.declared.place.Place.TheVariants.{Code, Bytes, Unloaded, Import, Number, Absent}
use Rattle.symbols.specs.Parts.{object_at, kind_at}
use Rattle.symbols.specs.Wanted.{Given}
use Rattle.symbols.specs.Resolution.{resolution, entry_place}

-- a section of data that is loaded
abbrev pub is_data : SectionKind → Bool
is_data kinds.Code = false
is_data kinds.ReadOnly = true
is_data kinds.Writable = true
is_data kinds.Zero = true
is_data kinds.Unloaded = false

-- the object has a section with this number
pub record HasSection (objects : List Object) (object section : ℕ) : Type 0 where
  pub object_in : object < length objects
  pub section_in : section < length (object_at objects object).sections

-- what a place names is there, and is what the place says
abbrev pub IsWithin : Given → Place → Type 0
IsWithin given (Code object section offset) = HasSection given.objects object section × (kind_at given.objects object section ≡ kinds.Code)
IsWithin given (Bytes object section offset) = HasSection given.objects object section × (is_data (kind_at given.objects object section) ≡ true)
IsWithin given Unloaded = Unit {0}
IsWithin given (Import at) = at < length given.wanted.imports
IsWithin given (Number number) = Unit {0}
IsWithin given Absent = Unit {0}

-- so it is for the place of every symbol and of every entry
pub record PlacesAreWithin : Type 0 where
  pub of_symbols : (given : Given) (object number : ℕ) → object < length given.objects → IsWithin given (resolution given object number)
  pub of_entries : (given : Given) (entry : ℕ) → IsWithin given (entry_place given entry)
