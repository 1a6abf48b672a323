-- What a link is given.
use Rattle.std.specs.Prelude.{ℕ, ◌<◌, ◌^◌, List, [], length, slice_get, unwrap_or, Option, Some, None}
use Rattle.faults.specs.First.{where_true, first_below}
use Rattle.elf_objects.specs.Objects.{Section, Object}
use Rattle.symbols.specs.declared.wanted.ImportKind.{ImportKind}
use Rattle.symbols.specs.declared.wanted.ImportKind.TheVariants.{Host, Sbrk}
use Rattle.symbols.specs.Parts.{same, sections_of}

-- an undefined name that the host stands for
pub record Import : Type 0 where
  pub name : List ℕ
  pub kind : ImportKind

-- the entries by name, the imports, and the size of the stack in bytes
pub record Wanted : Type 0 where
  pub entries : List (List ℕ)
  pub imports : List Import
  pub stack : ℕ

-- the objects in order, and what is wanted of them
pub record Given : Type 0 where
  pub objects : List Object
  pub wanted : Wanted

abbrev pub given_of : List Object → Wanted → Given
given_of objects wanted = record { objects = objects; wanted = wanted }

-- the objects with the sections that are linked: all of them, for now
abbrev pub kept_objects : Given → List Object
kept_objects given = given.objects

-- the sections of an object among these
abbrev pub sections_in : Given → ℕ → List Section
sections_in given object = sections_of (slice_get (kept_objects given) object)

-- the name of an entry by its number
abbrev pub entry_name_at : Wanted → ℕ → List ℕ
entry_name_at wanted at = unwrap_or (slice_get wanted.entries at) []

abbrev pub name_of : Option Import → List ℕ
name_of None = []
name_of (Some one) = one.name

-- the name of an import by its number
abbrev pub import_name_at : Wanted → ℕ → List ℕ
import_name_at wanted at = name_of (slice_get wanted.imports at)

-- the number of the import that has a name, the first where several had it
abbrev pub import_of : Wanted → List ℕ → Option ℕ
import_of wanted name = first_below (length wanted.imports) (λ at. where_true (same name (import_name_at wanted at)) at)

-- the number of a host call fits in 31 bits
abbrev pub IsHostNumber : ImportKind → Type 0
IsHostNumber (Host number) = number < 2 ^ 31
IsHostNumber Sbrk = Unit {0}
