-- Relocations in the tables of sections of data.
use Rattle.std.proofs.Common.{◌≡◌, ℕ, Bool, true, false, Option, Some, None, refl, ◌∙◌, subst}
use Rattle.std.specs.Prelude.{◌≢◌, slice_get, IsSomeAnd, is_some, is_none}
use Rattle.elf_objects.specs.declared.parts.Relocation.{Relocation}
use Rattle.elf_objects.specs.declared.parts.SectionKind.{SectionKind}
use Rattle.elf_objects.specs.declared.parts.SectionKind.TheVariants as kinds
use Rattle.elf_objects.specs.Objects.{Section, relocations_of, is_loaded_kind}
use Rattle.elf_objects.specs.Keeping.{KeepsRelocation}
use Rattle.symbols.specs.Laws.{HasSection}
use Rattle.symbols.specs.Parts.{object_at, kind_of}
use Rattle.symbols.specs.Resolution.{resolution}
use Rattle.symbols.specs.Wanted.{Given}
use Rattle.relocs.specs.Kinds.{names_address}
use Rattle.symbols.specs.declared.place.Place.TheVariants as names
use Rattle.relocs.specs.declared.fault.TheConstants.{NOT_A_PLACE}
use Rattle.relocs.specs.Places.{CodePlace, has, code_place}
use Rattle.relocs.specs.Pairs.{is_place}
use Rattle.relocs.specs.AddressMap.{place_at, named_places, needed_places, number_in}
use Rattle.relocs.specs.Sources.{IsRelocation}
use Rattle.relocs.specs.Values.{place_fault, address_fault}
use Rattle.relocs.proofs.Named.{is_named, named_number}

loaded_kind : (kind : SectionKind) → kind ≢ kinds.Unloaded → is_loaded_kind kind ≡ true
loaded_kind kinds.Code h = refl
loaded_kind kinds.ReadOnly h = refl
loaded_kind kinds.Writable h = refl
loaded_kind kinds.Zero h = refl
loaded_kind kinds.Unloaded h = absurd (h refl)

loaded_some : (o : Option Section) → IsSomeAnd o (λ section. section.kind ≢ kinds.Unloaded) → is_loaded_kind (kind_of o) ≡ true
loaded_some None h = absurd h
loaded_some (Some section) h = loaded_kind section.kind h

-- a relocation of a table is one of a loaded section
pub is_relocation :
    (given : Given) (o s at : ℕ) (r : Relocation) → HasSection given.objects o s → KeepsRelocation (object_at given.objects o) s r
    → slice_get (relocations_of (object_at given.objects o) s) at ≡ Some r → IsRelocation given o s r
is_relocation given o s at r has keeps entry = record {
  at = at;
  object_in = has.object_in;
  section_in = has.section_in;
  entry = rw (loaded_some (slice_get (object_at given.objects o).sections s) keeps.loaded) entry;
}

fault_or_not : (given : Given) (p : CodePlace) → is_place given p ≡ is_none (place_fault given NOT_A_PLACE p)
fault_or_not given p = by_test (is_place given p) refl
  where
    by_test : (b : Bool) → is_place given p ≡ b → is_place given p ≡ is_none (place_fault given NOT_A_PLACE p)
    by_test true e = rw e refl
    by_test false e = rw e refl

-- a place of code that a relocation names as an address has a number exactly where it has no fault
pub code_address :
    (given : Given) (o s : ℕ) (r : Relocation) (o' s' offset : ℕ) → IsRelocation given o s r → names_address r ≡ true → resolution given o r.symbol ≡ names.Code o' s' offset
    → is_some (number_in (needed_places given) (code_place o' s' offset r.addend)) ≡ is_none (address_fault given (resolution given o r.symbol) r.addend)
code_address given o s r o' s' offset is named e =
    let has_it : has (named_places given) (place_at (names.Code o' s' offset) r.addend) ≡ true = subst (λ place. has (named_places given) (place_at place r.addend) ≡ true) e (is_named given o s r is named) in
    rw e (named_number given (code_place o' s' offset r.addend) has_it ∙ fault_or_not given (code_place o' s' offset r.addend))
