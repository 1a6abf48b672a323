-- The addresses that are kept are those of the sections.
use Rattle.std.proofs.Common.{◌≡◌, ℕ, List, [], length, take, slice_get, unwrap_or, Option, Some, None, refl, ◌∙◌, ap}
use Rattle.elf_objects.specs.declared.parts.SectionKind.{SectionKind}
use Rattle.elf_objects.specs.declared.parts.SectionKind.TheVariants as kinds
use Rattle.elf_objects.specs.Objects.{Section}
use Rattle.symbols.specs.declared.place.Place.{Place}
use Rattle.layout.specs.Slots.{slot_places}
use Rattle.symbols.specs.Parts.{object_at}
use Rattle.symbols.specs.Wanted.{Given}
use Rattle.symbols.proofs.Resolving.{slice_get-values_below}
use Rattle.layout.specs.Addresses.{address_by, address_in, address_of}
use Rattle.layout.specs.Placed.{IsPlaced}
use Rattle.layout.specs.Steps.{no_section, after_sections, after_objects, address_after_by, address_after, address_at, addresses_at, addresses_in}
use Rattle.layout.specs.Parts.{starts_of, IsMeasured}
use Rattle.layout.specs.declared.next.Next.{Next}
use Rattle.layout.specs.declared.parts.Parts.{Parts}

abbrev ends_before : Given → ℕ → ℕ → Next
ends_before given o s = after_sections (after_objects (starts_of given) (take o given.objects)) (take s (object_at given.objects o).sections)

-- after the sections before it a section has its address
same_address : (given : Given) (o s : ℕ) → address_at (after_objects (starts_of given) (take o given.objects)) (object_at given.objects o).sections s ≡ address_of given o s
same_address given o s = of_found (slice_get (object_at given.objects o).sections s)
  where
    of_kind : (kind : SectionKind) (section : Section) → address_after_by kind (ends_before given o s) section ≡ address_by kind given o s section
    of_kind kinds.Code section = refl
    of_kind kinds.ReadOnly section = refl
    of_kind kinds.Writable section = refl
    of_kind kinds.Zero section = refl
    of_kind kinds.Unloaded section = refl

    of_found : (found : Option Section) → address_after (ends_before given o s) (unwrap_or found no_section) ≡ address_in given o s found
    of_found None = refl
    of_found (Some section) = of_kind section.kind section

-- what was measured and computed is where the sections and the slots are placed
pub is_placed : (given : Given) (parts : Parts) (rows : List (List (Option ℕ))) (slots : List Place) → IsMeasured given parts → rows ≡ addresses_in parts.starts given.objects → slots ≡ slot_places given
    → IsPlaced given (record { addresses = rows; slots = slots; slots_start = parts.slots_start; read_only_len = parts.read_only_len; writable_len = parts.writable_len; zero_pages = parts.zero_pages })
is_placed given parts rows slots measured rows_are slots_are =
    let all : rows ≡ addresses_in (starts_of given) given.objects = rows_are ∙ ap (λ starts. addresses_in starts given.objects) measured.starts_are in
    record {
      addresses_are = λ o s o_in s_in.
          let sections = (object_at given.objects o).sections in
          ap (λ rows. slice_get (unwrap_or (slice_get rows o) []) s) all
          ∙ ap (λ row. slice_get (unwrap_or row []) s) (slice_get-values_below (length given.objects) o (addresses_at (starts_of given) given.objects) o_in)
          ∙ slice_get-values_below (length sections) s (address_at (after_objects (starts_of given) (take o given.objects)) sections) s_in
          ∙ ap Some (same_address given o s);
      slots_are = slots_are;
      slots_start_is = measured.slots_start_is;
      read_only_is = measured.read_only_is;
      writable_is = measured.writable_is;
      zero_pages_are = measured.zero_pages_are;
      no_fault = measured.no_fault;
    }
