-- What a symbol and a name stand for (System V gABI, "Symbol Table", "Symbol Binding" and "Special Section Indexes").
use Rattle.std.specs.Prelude.{ℕ, List, Bool, true, false, not, ◌&&◌, nat_eq, length, if◌then◌else◌, Option, Some, None}
use Rattle.faults.specs.First.{◌or_else◌, where_true, first_below}
use Rattle.elf_objects.specs.declared.parts.Binding.{Binding}
use Rattle.elf_objects.specs.declared.parts.Binding.TheVariants.{Local, Global, Weak}
use Rattle.elf_objects.specs.declared.parts.SymbolIndex.{SymbolIndex}
use Rattle.elf_objects.specs.declared.parts.SymbolIndex.TheVariants as index
use Rattle.elf_objects.specs.declared.parts.SectionKind.{SectionKind}
use Rattle.elf_objects.specs.declared.parts.SectionKind.TheVariants as kinds
use Rattle.elf_objects.specs.Objects.{Symbol, Object}
use Rattle.symbols.specs.declared.place.Place.{Place}
use Rattle.symbols.specs.declared.place.Place.TheVariants.{Code, Bytes, Unloaded, Import, Number, Absent}
use Rattle.symbols.specs.declared.place.Answer.{Answer}
use Rattle.symbols.specs.declared.place.Answer.TheVariants as answer
use Rattle.symbols.specs.Parts.{same, symbol_at, symbol_count, kind_at}
use Rattle.symbols.specs.Wanted.{Given, entry_name_at, import_of}

-- a symbol that defines its name, with the numbers of its object and of itself there
pub record Definition : Type 0 where
  pub object : ℕ
  pub number : ℕ
  pub symbol : Symbol

abbrev pub same_binding : Binding → Binding → Bool
same_binding Local Local = true
same_binding Local Global = false
same_binding Local Weak = false
same_binding Global Local = false
same_binding Global Global = true
same_binding Global Weak = false
same_binding Weak Local = false
same_binding Weak Global = false
same_binding Weak Weak = true

-- whether a symbol with this index is defined: in a section, as a number, or as COMMON
abbrev pub is_defined : SymbolIndex → Bool
is_defined index.Undefined = false
is_defined index.Absolute = true
is_defined index.Common = true
is_defined (index.Section section) = true

-- The symbol with this number defines its name with this binding. Symbol 0 defines nothing.
abbrev pub is_definition : Binding → ℕ → Symbol → Bool
is_definition binding number symbol = not (nat_eq number 0) && same_binding binding symbol.binding && is_defined symbol.index

-- the definition of a name with a binding that a symbol of an object is
abbrev pub definition_at : List Object → Binding → List ℕ → ℕ → ℕ → Option Definition
definition_at objects binding name object number =
    let symbol = symbol_at objects object number in
    where_true (is_definition binding number symbol && same name symbol.name) (record { object = object; number = number; symbol = symbol })

-- the first of an object
abbrev pub first_in_object : List Object → Binding → List ℕ → ℕ → Option Definition
first_in_object objects binding name object = first_below (symbol_count objects object) (definition_at objects binding name object)

-- the first of all, by object and symbol
abbrev pub first_definition : List Object → Binding → List ℕ → Option Definition
first_definition objects binding name = first_below (length objects) (first_in_object objects binding name)

-- what defines a name: its GLOBAL definition, and where it has none, its first WEAK one
abbrev pub definition_of : Given → List ℕ → Option Definition
definition_of given name = first_definition given.objects Global name or_else first_definition given.objects Weak name

-- a place in a section, by what the section is
abbrev pub section_place : SectionKind → ℕ → ℕ → ℕ → Place
section_place kinds.Code object section offset = Code object section offset
section_place kinds.ReadOnly object section offset = Bytes object section offset
section_place kinds.Writable object section offset = Bytes object section offset
section_place kinds.Zero object section offset = Bytes object section offset
section_place kinds.Unloaded object section offset = Unloaded

-- where an object's symbol with this index and value is defined; a COMMON symbol is in no section
abbrev pub defined_place : List Object → ℕ → SymbolIndex → ℕ → Place
defined_place objects object index.Undefined value = Absent
defined_place objects object index.Absolute value = Number value
defined_place objects object index.Common value = Unloaded
defined_place objects object (index.Section section) value = section_place (kind_at objects object section) object section value

-- the place of a definition, and where there is none, of the import
abbrev pub definition_or_import : List Object → Option Definition → Option ℕ → Place
definition_or_import objects (Some d) import = defined_place objects d.object d.symbol.index d.symbol.value
definition_or_import objects None (Some at) = Import at
definition_or_import objects None None = Absent

-- What a GLOBAL or WEAK symbol of this name stands for: the name's definition, else the import of that name. A name that has
-- neither is absent. (For a GLOBAL symbol that is a fault where a relocation names it; where none does, nothing asks.)
unfoldable pub name_place : Given → List ℕ → Place
name_place given name = definition_or_import given.objects (definition_of given name) (import_of given.wanted name)

-- what a symbol with this binding stands for: a LOCAL one for its own definition
abbrev pub symbol_place : Given → ℕ → Binding → Symbol → Place
symbol_place given object Local symbol = defined_place given.objects object symbol.index symbol.value
symbol_place given object Global symbol = name_place given symbol.name
symbol_place given object Weak symbol = name_place given symbol.name

-- what a symbol of an object stands for, by their numbers; symbol 0 is the number 0
unfoldable pub resolution : Given → ℕ → ℕ → Place
resolution given object number =
    let symbol = symbol_at given.objects object number in
    if nat_eq number 0 then Number 0 else symbol_place given object symbol.binding symbol

-- the place of an entry by its number: an import is none
unfoldable pub entry_place : Given → ℕ → Place
entry_place given at = definition_or_import given.objects (definition_of given (entry_name_at given.wanted at)) None

abbrev pub answer_at : Place → Option Answer
answer_at (Code object section offset) = None
answer_at (Bytes object section offset) = None
answer_at Unloaded = None
answer_at (Import at) = Some (answer.Import at)
answer_at (Number number) = Some (answer.Number number)
answer_at Absent = None

-- the number or the import that a GLOBAL symbol of this name stands for
abbrev pub answer_of : Given → List ℕ → Option Answer
answer_of given name = answer_at (name_place given name)
