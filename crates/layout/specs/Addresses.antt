-- The addresses of the sections that aren't code. Those of a kind follow one another in the order of objects and sections,
-- each at the next multiple of its alignment (gABI, "Sections", sh_addralign): the read-only ones from 2^16 on, the writable
-- ones from the address that the standard start gives them (JAM Gray Paper 0.7.0, appendix A), and those of zeros after these.
use Rattle.std.specs.Prelude.{ℕ, zero, suc, ◌+◌, ◌-◌, ◌*◌, ◌/◌, max, List, [], ◌∷◌, take, Bool, true, false, Option, Some, None, slice_get}
use Rattle.std.specs.List.{position}
use Rattle.std.specs.Option.{option_map}
use Rattle.elf_objects.specs.declared.parts.SectionKind.{SectionKind}
use Rattle.elf_objects.specs.declared.parts.SectionKind.TheVariants as kinds
use Rattle.elf_objects.specs.Objects.{Section, Object}
use Rattle.symbols.specs.Parts.{object_at}
use Rattle.symbols.specs.declared.place.Place.{Place}
use Rattle.symbols.specs.Wanted.{Given, kept_objects}
use Rattle.machine_state.specs.Start.{pages_of, read_only_start, start_after}
use Rattle.layout.specs.Sections.{is_read_only, is_writable, is_zero, extent}
use Rattle.layout.specs.Slots.{is_same, slot_places, slot_count}

-- the next multiple of an alignment from an address on; the alignment 0 is that of any byte
abbrev pub aligned : ℕ → ℕ → ℕ
aligned at align = (at + (max 1 align - 1)) / max 1 align * max 1 align

-- where a section ends that is loaded at the next multiple of its alignment from an address on
abbrev pub end_of : ℕ → Section → ℕ
end_of at section = aligned at section.align + extent section

-- where a section ends if it is of a kind, and else the address
abbrev pub end_if : Bool → ℕ → Section → ℕ
end_if true at section = end_of at section
end_if false at section = at

-- where the sections of a kind end, the first of which is loaded from an address on: those in a list, and those of objects
unfoldable pub end_of_sections : (SectionKind → Bool) → ℕ → List Section → ℕ
end_of_sections is_of at [] = at
end_of_sections is_of at (section ∷ sections) = end_of_sections is_of (end_if (is_of section.kind) at section) sections

unfoldable pub end_of_objects : (SectionKind → Bool) → ℕ → List Object → ℕ
end_of_objects is_of at [] = at
end_of_objects is_of at (object ∷ objects) = end_of_objects is_of (end_of_sections is_of at object.sections) objects

-- where the sections before a section of an object end
abbrev pub end_before : (SectionKind → Bool) → ℕ → Given → ℕ → ℕ → ℕ
end_before is_of at given o s =
    end_of_sections is_of (end_of_objects is_of at (take o (kept_objects given))) (take s (object_at (kept_objects given) o).sections)

-- The table of slots follows the read-only sections at a multiple of 8, where it has one; a slot has 8 bytes.
abbrev pub slots_start : Given → ℕ
slots_start given = aligned (end_of_objects is_read_only read_only_start (kept_objects given)) 8

-- where n slots after an address end
abbrev pub end_of_slots : ℕ → ℕ → ℕ
end_of_slots at zero = at
end_of_slots at (suc n) = aligned at 8 + 8 * suc n

-- the read-only part: where it ends, and its bytes
abbrev pub read_only_end : Given → ℕ
read_only_end given = end_of_slots (end_of_objects is_read_only read_only_start (kept_objects given)) (slot_count given)

abbrev pub read_only_len : Given → ℕ
read_only_len given = read_only_end given - read_only_start

-- the writable part: where it begins and ends, and its bytes
abbrev pub writable_start : Given → ℕ
writable_start given = start_after (read_only_len given)

abbrev pub writable_end : Given → ℕ
writable_end given = end_of_objects is_writable (writable_start given) (kept_objects given)

abbrev pub writable_len : Given → ℕ
writable_len given = writable_end given - writable_start given

-- where the sections of zeros end
abbrev pub zero_end : Given → ℕ
zero_end given = end_of_objects is_zero (writable_end given) (kept_objects given)

-- how many pages they need after those of the writable part
abbrev pub zero_pages : Given → ℕ
zero_pages given = pages_of (zero_end given - writable_start given) - pages_of (writable_len given)

-- the address of a section of a kind, which follows those before it
abbrev pub address_of_kind : (SectionKind → Bool) → ℕ → Given → ℕ → ℕ → Section → ℕ
address_of_kind is_of at given o s section = aligned (end_before is_of at given o s) section.align

abbrev pub address_by : SectionKind → Given → ℕ → ℕ → Section → Option ℕ
address_by kinds.Code given o s section = None
address_by kinds.ReadOnly given o s section = Some (address_of_kind is_read_only read_only_start given o s section)
address_by kinds.Writable given o s section = Some (address_of_kind is_writable (writable_start given) given o s section)
address_by kinds.Zero given o s section = Some (address_of_kind is_zero (writable_end given) given o s section)
address_by kinds.Unloaded given o s section = None

abbrev pub address_in : Given → ℕ → ℕ → Option Section → Option ℕ
address_in given o s None = None
address_in given o s (Some section) = address_by section.kind given o s section

-- the address of a section of an object, by their numbers: code has none, nor what isn't loaded
abbrev pub address_of : Given → ℕ → ℕ → Option ℕ
address_of given o s = address_in given o s (slice_get (object_at (kept_objects given) o).sections s)

-- the address of a place's slot, where it has one
abbrev pub slot_of : Given → Place → Option ℕ
slot_of given place = option_map (λ i. slots_start given + 8 * i) (position (is_same place) (slot_places given))

-- the address and the bytes of the table of slots, where it has one
abbrev pub got_with : ℕ → ℕ → Option (ℕ × ℕ)
got_with at zero = None
got_with at (suc n) = Some (at, 8 * suc n)

abbrev pub got_of : Given → Option (ℕ × ℕ)
got_of given = got_with (slots_start given) (slot_count given)
