-- The slots of the global offset table (RISC-V ELF psABI, "Global Offset Table"): one for each distinct place that a
-- GOT_HI20 of a loaded section names, in the order in which they are first named.
use Rattle.std.specs.Prelude.{ℕ, List, [], ◌∷◌, ◌++◌, Bool, true, false, ◌&&◌, nat_eq, length, Option, if◌then◌else◌, fold}
use Rattle.std.specs.List.{filter_map, list_any}
use Rattle.faults.specs.First.{where_true}
use Rattle.faults.specs.Present.{each_below}
use Rattle.elf_objects.specs.declared.parts.Relocation.{Relocation}
use Rattle.elf_objects.specs.Objects.{relocations_of, is_loaded_kind}
use Rattle.symbols.specs.declared.place.Place.{Place}
use Rattle.symbols.specs.declared.place.Place.TheVariants.{Code, Bytes, Unloaded, Import, Number, Absent}
use Rattle.symbols.specs.Parts.{object_at, kind_at}
use Rattle.symbols.specs.Wanted.{Given, kept_objects}
use Rattle.symbols.specs.Resolution.{resolution}
use Rattle.layout.specs.declared.slots.TheConstants.{GOT_HI20}

-- the lists of all sections, in the order of objects and sections
abbrev pub each_section : {A : Type 0} → Given → (ℕ → ℕ → List A) → List A
each_section given at = each_below (length (kept_objects given)) (λ o. each_below (length (object_at (kept_objects given) o).sections) (at o))

-- the relocations of a section in table order, where it is loaded
abbrev pub loaded_relocations : Given → ℕ → ℕ → List Relocation
loaded_relocations given o s = if is_loaded_kind (kind_at (kept_objects given) o s) then relocations_of (object_at (kept_objects given) o) s else []

-- Two symbols stand for one place: one offset of one section, one import, one number, or nothing.
abbrev pub is_same : Place → Place → Bool
is_same (Code o s offset) (Code o' s' offset') = nat_eq o o' && nat_eq s s' && nat_eq offset offset'
is_same (Bytes o s offset) (Bytes o' s' offset') = nat_eq o o' && nat_eq s s' && nat_eq offset offset'
is_same Unloaded Unloaded = true
is_same (Import i) (Import j) = nat_eq i j
is_same (Number n) (Number m) = nat_eq n m
is_same Absent Absent = true
is_same place other = false

-- the place is among these
abbrev pub is_among : List Place → Place → Bool
is_among places place = list_any (is_same place) places

-- the place that a relocation of an object names, where it needs a slot
abbrev pub slot_use : Given → ℕ → Relocation → Option Place
slot_use given o relocation = where_true (nat_eq relocation.kind GOT_HI20) (resolution given o relocation.symbol)

-- those that the relocations of a section name, and those of all
abbrev pub slot_uses_in : Given → ℕ → ℕ → List Place
slot_uses_in given o s = filter_map (slot_use given o) (loaded_relocations given o s)

abbrev pub slot_uses : Given → List Place
slot_uses given = each_section given (slot_uses_in given)

-- a place is added after the others, where it isn't among them
abbrev pub with_place : List Place → Place → List Place
with_place places place = if is_among places place then places else places ++ place ∷ []

-- the places that have a slot, in the order of their slots
unfoldable pub slot_places : Given → List Place
slot_places given = fold with_place [] (slot_uses given)

-- how many slots there are
abbrev pub slot_count : Given → ℕ
slot_count given = length (slot_places given)
