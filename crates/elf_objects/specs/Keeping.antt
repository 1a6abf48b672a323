-- What the parts of an object keep, since no fault is present in its file.
use Rattle.std.specs.Prelude.{◌≡◌, ◌≢◌, ℕ, ◌+◌, ◌<◌, ◌≤◌, [], length, IsTrue, IsSomeAnd, slice_get}
use Rattle.std.specs.Int.{is_power_of_two}
use Rattle.elf_objects.specs.Objects.{Section, Object}
use Rattle.elf_objects.specs.Widths.{width}
use Rattle.elf_objects.specs.declared.parts.SectionKind.TheVariants.{Zero, Unloaded}
use Rattle.elf_objects.specs.declared.parts.SymbolIndex.TheVariants as index_variant
use Rattle.elf_objects.specs.declared.parts.Section as borrowed_section
use Rattle.elf_objects.specs.declared.parts.Symbol as borrowed_symbol
use Rattle.elf_objects.specs.declared.parts.Relocation.{Relocation}

-- an alignment is at least 1, and that of a loaded section a power of two up to 4096; a loaded section has as many
-- bytes as its size says, or none where it begins as zeros
pub record KeepsSection (section : borrowed_section.Section) : Type 0 where
  pub positive : 0 < section.align
  pub power : section.kind ≢ Unloaded → IsTrue (is_power_of_two section.align)
  pub aligned : section.kind ≢ Unloaded → section.align ≤ 4096
  pub filled : section.kind ≢ Unloaded → section.kind ≢ Zero → length section.content.now ≡ section.size
  pub empty : section.kind ≡ Zero → section.content.now ≡ []

-- a value lies in a section or at its end, where the section is loaded
abbrev pub LiesWithin : ℕ → Section → Type 0
LiesWithin value section = section.kind ≢ Unloaded → value ≤ section.size

-- the section of a symbol is there, and the symbol lies within it
pub record KeepsSymbol (object : Object) (symbol : borrowed_symbol.Symbol) : Type 0 where
  pub there : (s : ℕ) → symbol.index ≡ index_variant.Section s → s < length object.sections
  pub within :
      (s : ℕ) → symbol.index ≡ index_variant.Section s → IsSomeAnd (slice_get object.sections s) (LiesWithin symbol.value)

-- section s of a relocation is loaded, its symbol is there, and what it changes lies in the section
pub record KeepsRelocation (object : Object) (s : ℕ) (relocation : Relocation) : Type 0 where
  pub loaded : IsSomeAnd (slice_get object.sections s) (λ section. section.kind ≢ Unloaded)
  pub named : relocation.symbol < length object.symbols
  pub within :
      IsSomeAnd (slice_get object.sections s) (λ section. relocation.offset + width relocation.kind ≤ section.size)
