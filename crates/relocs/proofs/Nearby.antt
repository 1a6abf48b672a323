-- Relocations of a section of code, at an offset and near it.
use Rattle.std.proofs.Common.{◌≡◌, ℕ, List, Some, refl, sym, ap, ◌∙◌}
use Rattle.std.specs.Prelude.{slice_get}
use Rattle.std.specs.List.{filter}
use Rattle.elf_objects.specs.declared.parts.Relocation.{Relocation}
use Rattle.elf_objects.specs.declared.parts.SectionKind.TheVariants as kinds
use Rattle.elf_objects.specs.Objects.{Object, relocations_of}
use Rattle.symbols.specs.Laws.{HasSection}
use Rattle.symbols.specs.Parts.{object_at, kind_at}
use Rattle.symbols.specs.Wanted.{Given}
use Rattle.layout.specs.Slots.{loaded_relocations}
use Rattle.relocs.specs.Pairs.{relocation_is_at, relocations_at}
use Rattle.relocs.specs.ByOffset.{AreNamed}
use Rattle.relocs.specs.Sources.{IsRelocation, AreRelocations}
use Rattle.relocs.proofs.ByOffset.{filter_again, filter_from}

-- code is loaded
pub loaded_code : (given : Given) (o s : ℕ) → kind_at given.objects o s ≡ kinds.Code → loaded_relocations given o s ≡ relocations_of (object_at given.objects o) s
loaded_code given o s code = rw code refl

pub of_row :
    (given : Given) (o s offset : ℕ) (objects : List Object) (row : List Relocation) → objects ≡ given.objects → kind_at given.objects o s ≡ kinds.Code
    → row ≡ filter (relocation_is_at offset) (relocations_of (object_at objects o) s) → row ≡ relocations_at given o s offset
of_row given o s offset objects row same code is =
    is ∙ ap (λ l. filter (relocation_is_at offset) (relocations_of (object_at l o) s)) same ∙ ap (filter (relocation_is_at offset)) (sym (loaded_code given o s code))

pub near_row :
    (given : Given) (o s offset : ℕ) (objects : List Object) (row : List Relocation) → objects ≡ given.objects → kind_at given.objects o s ≡ kinds.Code
    → row ≡ filter (relocation_is_at offset) (relocations_of (object_at objects o) s) → filter (relocation_is_at offset) row ≡ relocations_at given o s offset
near_row given o s offset objects row same code is =
    ap (filter (relocation_is_at offset)) is ∙ filter_again (relocation_is_at offset) (relocations_of (object_at objects o) s) ∙ sym is ∙ of_row given o s offset objects row same code is

-- those at an offset are relocations of the section
pub are_relocations :
    (given : Given) (o s offset : ℕ) (row : List Relocation) → HasSection given.objects o s → AreNamed (object_at given.objects o) row → row ≡ relocations_at given o s offset
    → AreRelocations given o s row
are_relocations given o s offset row has named is = record {
  each = λ i r e.
      let found = filter_from (relocation_is_at offset) (loaded_relocations given o s) i r (ap (λ l. slice_get l i) (sym is) ∙ e) in (
        record { at = found.0; object_in = has.object_in; section_in = has.section_in; entry = found.1 },
        named.each i r e,
      );
}

-- the place of a relocation of code in its table
pub in_table : (given : Given) (o s : ℕ) (r : Relocation) → kind_at given.objects o s ≡ kinds.Code → (is : IsRelocation given o s r) → slice_get (relocations_of (object_at given.objects o) s) is.at ≡ Some r
in_table given o s r code is = ap (λ l. slice_get l is.at) (sym (loaded_code given o s code)) ∙ is.entry
