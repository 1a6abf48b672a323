-- The bytes of the read-only and of the writable part: those of the sections at their addresses, after relocation, zeros in
-- between, and the slots after the read-only sections.
use Rattle.std.specs.Prelude.{◌≡◌, Some, ℕ, zero, suc, ◌+◌, ◌-◌, List, [], ◌∷◌, ◌++◌, length, replicate, Bool, true, false, pos}
use Rattle.std.specs.List.{flat_map}
use Rattle.numbers.specs.Bytes.{little}
use Rattle.elf_objects.specs.declared.parts.SectionKind.{SectionKind}
use Rattle.elf_objects.specs.Objects.{Section}
use Rattle.symbols.specs.declared.place.Place.{Place}
use Rattle.symbols.specs.Parts.{object_at}
use Rattle.symbols.specs.Wanted.{Given, kept_objects}
use Rattle.machine_state.specs.Start.{read_only_start}
use Rattle.layout.specs.Sections.{is_read_only, is_writable}
use Rattle.layout.specs.Slots.{slot_places}
use Rattle.layout.specs.Addresses.{aligned, writable_start}
use Rattle.layout.specs.Steps.{section_at}
use Rattle.relocs.specs.declared.part.Part.{Part}
use Rattle.relocs.specs.declared.part.Part.TheVariants.{ReadOnly, Writable}
use Rattle.relocs.specs.Values.{value_of, bits_of}
use Rattle.faults.specs.Present.{first_in}
use Rattle.relocs.specs.declared.fault.RelocFault.{RelocFault}
use Rattle.relocs.specs.declared.fault.RelocFault.TheVariants.{Bad, Memory}
use Rattle.relocs.specs.Data.{section_bytes, data_faults}

-- bytes from an address on, zeros up to a multiple of an alignment, and a piece
abbrev pub placed_after : ℕ → List ℕ → ℕ → List ℕ → List ℕ
placed_after start bytes align piece = bytes ++ replicate (aligned (start + length bytes) align - (start + length bytes)) 0 ++ piece

-- the bytes of a part with those of a section after them, if it belongs to the part
abbrev pub with_section : Bool → Given → ℕ → List ℕ → ℕ → ℕ → Section → List ℕ
with_section true given start bytes o s section = placed_after start bytes section.align (section_bytes given o s section)
with_section false given start bytes o s section = bytes

-- with those of the first sections of an object, and with those of the first objects
unfoldable pub with_sections : (SectionKind → Bool) → Given → ℕ → List ℕ → ℕ → ℕ → List ℕ
with_sections is_of given start bytes o zero = bytes
with_sections is_of given start bytes o (suc s) =
    let section = section_at (object_at (kept_objects given) o).sections s in
    with_section (is_of section.kind) given start (with_sections is_of given start bytes o s) o s section

unfoldable pub with_objects : (SectionKind → Bool) → Given → ℕ → ℕ → List ℕ
with_objects is_of given start zero = []
with_objects is_of given start (suc o) = with_sections is_of given start (with_objects is_of given start o) o (length (object_at (kept_objects given) o).sections)

abbrev pub sections_image : (SectionKind → Bool) → Given → ℕ → List ℕ
sections_image is_of given start = with_objects is_of given start (length (kept_objects given))

-- the sections of a part, and where it begins
abbrev pub holds : Part → (SectionKind → Bool)
holds ReadOnly = is_read_only
holds Writable = is_writable

abbrev pub start_of : Given → Part → ℕ
start_of given ReadOnly = read_only_start
start_of given Writable = writable_start given

-- the bytes of a slot: the value of the place that it is for
abbrev pub slot_bytes : Given → Place → List ℕ
slot_bytes given place = little 8 (bits_of (value_of given place (pos 0)))

-- the slots after the read-only sections, where there are any
abbrev pub with_slots : Given → List ℕ → List Place → List ℕ
with_slots given bytes [] = bytes
with_slots given bytes (place ∷ places) = placed_after read_only_start bytes 8 (flat_map (slot_bytes given) (place ∷ places))

-- the read-only and the writable part
unfoldable pub read_only_image : Given → List ℕ
read_only_image given = with_slots given (sections_image (holds ReadOnly) given (start_of given ReadOnly)) (slot_places given)

unfoldable pub writable_image : Given → List ℕ
writable_image given = sections_image (holds Writable) given (start_of given Writable)

-- the images of a link's data
pub record Images : Type 0 where
  pub read_only : List ℕ
  pub writable : List ℕ

-- they are those of what the link is given, whose data have no fault
pub record AreImages (given : Given) (images : Images) : Type 0 where
  pub read_only_is : images.read_only ≡ read_only_image given
  pub writable_is : images.writable ≡ writable_image given
  pub no_fault : data_faults given ≡ []

-- the first fault is reported; an allocation may fail at any time
abbrev pub Refuses : Given → RelocFault → Type 0
Refuses given (Bad fault) = first_in (data_faults given) ≡ Some fault
Refuses given Memory = Unit {0}
