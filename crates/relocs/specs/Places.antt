-- The places of the source machine, and the offsets of code that can be places, in code order.
use Rattle.std.specs.Prelude.{ℕ, zero, suc, ◌+◌, ◌/◌, List, [], ◌∷◌, length, Option, Some, None, Bool, true, false, ◌&&◌, nat_eq, if◌then◌else◌, slice_get, ◌%◌, ◌^◌, ℤ}
use Rattle.std.specs.List.{list_any}
use Rattle.numbers.specs.Words.{word_of}
use Rattle.elf_objects.specs.Objects.{Section}
use Rattle.symbols.specs.Parts.{object_at}
use Rattle.symbols.specs.Wanted.{Given, kept_objects}
use Rattle.layout.specs.Sections.{is_code}
use Rattle.layout.specs.Slots.{each_section}

-- A place: an offset in bytes of a code section, or one of the operations of a stub. A stub stands for the import with its
-- number; the one whose number is the count of the imports is a trap, which stands for names that are absent.
-- Nowhere is what a list of places has past its end.
pub data CodePlace : Type 0 where
  Code : (object section offset : ℕ) → CodePlace
  Stub : (number at : ℕ) → CodePlace
  Nowhere : CodePlace

-- which sections the program takes: all
abbrev pub is_kept : Given → ℕ → ℕ → Bool
is_kept given object section = true

abbrev pub code_if : Bool → Option Section → Option (List ℕ)
code_if kept None = None
code_if kept (Some section) = if kept && is_code section.kind then Some section.content else None

-- the bytes of a section, where it is a code section that is kept
abbrev pub code_at : Given → ℕ → ℕ → Option (List ℕ)
code_at given o s = code_if (is_kept given o s) (slice_get (object_at (kept_objects given) o).sections s)

-- n offsets of a section, four bytes apart
abbrev pub offsets_from : ℕ → ℕ → ℕ → ℕ → List CodePlace
offsets_from o s offset zero = []
offsets_from o s offset (suc count) = Code o s offset ∷ offsets_from o s (offset + 4) count

-- the offsets of a section that can be places: each multiple of four that is at most its size
abbrev pub section_offsets : Option (List ℕ) → ℕ → ℕ → List CodePlace
section_offsets None o s = []
section_offsets (Some bytes) o s = offsets_from o s 0 (length bytes / 4 + 1)

-- those of all sections, by object, section and offset
abbrev pub code_offsets : Given → List CodePlace
code_offsets given = each_section given (λ o s. section_offsets (code_at given o s) o s)

abbrev pub same_place : CodePlace → CodePlace → Bool
same_place (Code o s offset) (Code o' s' offset') = nat_eq o o' && nat_eq s s' && nat_eq offset offset'
same_place (Stub n at) (Stub n' at') = nat_eq n n' && nat_eq at at'
same_place Nowhere Nowhere = true
same_place p q = false

-- the place is among these
abbrev pub has : List CodePlace → CodePlace → Bool
has places p = list_any (same_place p) places

-- The place this far from an offset of a section. Offsets count modulo 2^64: one before the start of a section is after
-- the end of all.
abbrev pub code_place : ℕ → ℕ → ℕ → ℤ → CodePlace
code_place o s offset by = Code o s ((offset + word_of by) % 2 ^ 64)
