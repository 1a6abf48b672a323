-- What an object is: its sections, symbols and relocations (gABI, "Object Files").
use Rattle.std.specs.Prelude.{◌≡◌, ℕ, Bool, true, false, List, [], Option, Some, None, slice_get}
use Rattle.elf_objects.specs.declared.parts.SectionKind.{SectionKind}
use Rattle.elf_objects.specs.declared.parts.SectionKind.TheVariants as kinds
use Rattle.elf_objects.specs.declared.parts.Binding.{Binding}
use Rattle.elf_objects.specs.declared.parts.SymbolIndex.{SymbolIndex}
use Rattle.elf_objects.specs.declared.parts.Relocation.{Relocation}
use Rattle.elf_objects.specs.declared.parts.Section as borrowed_section
use Rattle.elf_objects.specs.declared.parts.Symbol as borrowed_symbol

-- a section of this kind takes part in the program
abbrev pub is_loaded_kind : SectionKind → Bool
is_loaded_kind kinds.Code = true
is_loaded_kind kinds.ReadOnly = true
is_loaded_kind kinds.Writable = true
is_loaded_kind kinds.Zero = true
is_loaded_kind kinds.Unloaded = false

-- a section, with its bytes in the file and its relocations in the order of their tables
pub record Section : Type 0 where
  pub name : List ℕ
  pub kind : SectionKind
  pub size : ℕ
  pub align : ℕ
  pub content : List ℕ
  pub relocations : List Relocation

-- a symbol
pub record Symbol : Type 0 where
  pub name : List ℕ
  pub binding : Binding
  pub index : SymbolIndex
  pub value : ℕ

-- an object: whether it may have instructions of 2 bytes, its sections and symbols by their numbers, and the number of
-- the symbol table's section, 0 where there is none
pub record Object : Type 0 where
  pub compressed : Bool
  pub sections : List Section
  pub symbols : List Symbol
  pub symbol_table : ℕ

-- the relocations of a section by its number
abbrev pub relocations_in : Option Section → List Relocation
relocations_in None = []
relocations_in (Some section) = section.relocations

abbrev pub relocations_of : Object → ℕ → List Relocation
relocations_of object at = relocations_in (slice_get object.sections at)

-- the borrowed parts of a section are those of the section
pub record ShowsSection (borrowed : borrowed_section.Section) (section : Section) : Type 0 where
  pub name : borrowed.name.now ≡ section.name
  pub kind : borrowed.kind ≡ section.kind
  pub size : borrowed.size ≡ section.size
  pub align : borrowed.align ≡ section.align
  pub content : borrowed.content.now ≡ section.content

-- the borrowed parts of a symbol are those of the symbol
pub record ShowsSymbol (borrowed : borrowed_symbol.Symbol) (symbol : Symbol) : Type 0 where
  pub name : borrowed.name.now ≡ symbol.name
  pub binding : borrowed.binding ≡ symbol.binding
  pub index : borrowed.index ≡ symbol.index
  pub value : borrowed.value ≡ symbol.value
