-- The parts of a link's objects by their numbers. A number that isn't below its count stands for a part that has no effect.
use Rattle.std.specs.Prelude.{ℕ, List, [], Bool, false, length, slice_get, unwrap_or, Option, Some, None, nat_eq}
use lib.Pointwise.{pointwise}
use Rattle.elf_objects.specs.declared.parts.Binding.TheVariants.{Local}
use Rattle.elf_objects.specs.declared.parts.SymbolIndex.TheVariants.{Undefined}
use Rattle.elf_objects.specs.declared.parts.SectionKind.{SectionKind}
use Rattle.elf_objects.specs.declared.parts.SectionKind.TheVariants as kinds
use Rattle.elf_objects.specs.Objects.{Section, Symbol, Object}

-- one name is the other
abbrev pub same : List ℕ → List ℕ → Bool
same name other = pointwise nat_eq name other

abbrev pub no_object : Object
no_object = record { compressed = false; sections = []; symbols = []; symbol_table = 0 }

abbrev pub object_at : List Object → ℕ → Object
object_at objects object = unwrap_or (slice_get objects object) no_object

abbrev pub sections_of : Option Object → List Section
sections_of None = []
sections_of (Some object) = object.sections

-- the null symbol, which every symbol table begins with (gABI, "Symbol Table")
abbrev pub null_symbol : Symbol
null_symbol = record { name = []; binding = Local; index = Undefined; value = 0 }

abbrev pub symbol_at : List Object → ℕ → ℕ → Symbol
symbol_at objects object number = unwrap_or (slice_get (object_at objects object).symbols number) null_symbol

-- how many symbols an object has
abbrev pub symbol_count : List Object → ℕ → ℕ
symbol_count objects object = length (object_at objects object).symbols

abbrev pub kind_of : Option Section → SectionKind
kind_of None = kinds.Unloaded
kind_of (Some section) = section.kind

-- what a section of an object is
abbrev pub kind_at : List Object → ℕ → ℕ → SectionKind
kind_at objects object section = kind_of (slice_get (object_at objects object).sections section)
