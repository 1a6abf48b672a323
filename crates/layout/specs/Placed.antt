-- The addresses of sections and the lengths of the parts, as they are kept.
use Rattle.std.specs.List.{position}
use Rattle.std.specs.Option.{option_map}
use Rattle.std.specs.Prelude.{◌≡◌, ℕ, ◌<◌, ◌+◌, ◌*◌, List, [], length, slice_get, unwrap_or, Option, Some}
use Rattle.symbols.specs.declared.place.Place.{Place}
use Rattle.symbols.specs.Parts.{object_at}
use Rattle.symbols.specs.Wanted.{Given, kept_objects}
use Rattle.layout.specs.Slots.{is_same, slot_places}
use Rattle.layout.specs.Addresses.{slots_start, got_with, address_of, read_only_len, writable_len, zero_pages}
use Rattle.layout.specs.Faults.{layout_faults}

-- the addresses of sections by object, the places that have a slot, where slots begin, the lengths of the read-only and the
-- writable part, and the number of zero pages
pub record Placed : Type 0 where
  pub addresses : List (List (Option ℕ))
  pub slots : List Place
  pub slots_start : ℕ
  pub read_only_len : ℕ
  pub writable_len : ℕ
  pub zero_pages : ℕ

-- the address of a section by its object's number and its own, where the section is there
abbrev pub place_in : Placed → ℕ → ℕ → Option (Option ℕ)
place_in placed o s = slice_get (unwrap_or (slice_get placed.addresses o) []) s

-- the address of a place's slot
abbrev pub slot_in : Placed → Place → Option ℕ
slot_in placed place = option_map (λ i. placed.slots_start + 8 * i) (position (is_same place) placed.slots)

-- the address and the bytes of the table of slots
abbrev pub got_in : Placed → Option (ℕ × ℕ)
got_in placed = got_with placed.slots_start (length placed.slots)

-- they are those of the objects, which have no fault of the layout
pub record IsPlaced (given : Given) (placed : Placed) : Type 0 where
  pub addresses_are : (o s : ℕ) → o < length (kept_objects given) → s < length (object_at (kept_objects given) o).sections → place_in placed o s ≡ Some (address_of given o s)
  pub slots_are : placed.slots ≡ slot_places given
  pub slots_start_is : placed.slots_start ≡ slots_start given
  pub read_only_is : placed.read_only_len ≡ read_only_len given
  pub writable_is : placed.writable_len ≡ writable_len given
  pub zero_pages_are : placed.zero_pages ≡ zero_pages given
  pub no_fault : layout_faults given ≡ []
