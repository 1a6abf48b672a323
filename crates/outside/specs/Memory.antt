-- What folders and sinks in memory hold.
use Rattle.std.specs.Prelude.{ℕ, ◌<◌, List, Option, Some, None, option_and_then, refl}
use Rattle.std.specs.Ordering.{nat_cmp}
use Rattle.std.specs.Cmp.Lexicographic.{slice_cmp}
use Rattle.std.specs.Coded.{Coded, code_by, coded×, coded_ℕ, coded_list, coded_option}
use Rattle.std.specs.FinMap as map
use Rattle.outside.specs.Calls.{Calls}
use Rattle.outside.specs.Outside.{Files}

-- what a name holds, where it is there, and how many bytes a write of it may have, where it was given room
pub record Slot : Type 0 where
  pub content : Option (List ℕ)
  pub room : Option ℕ

-- slots by name
abbrev pub Slots : Type 0
Slots = map.FinMap (slice_cmp nat_cmp) Slot

-- a folder in memory
pub record FolderState : Type 0 where
  pub slots : Slots
  pub calls : Calls
  pub read_faults : ℕ
  pub write_faults : ℕ

-- a slot is stored as the pair of its fields
abbrev pub slot_code : Coded Slot
slot_code = code_by (Option (List ℕ) × Option ℕ) (coded× (coded_option (coded_list coded_ℕ)) (coded_option coded_ℕ)) (λ s. (s.content, s.room)) (λ p. record { content = p.0; room = p.1 }) (λ _. refl)

-- a folder is stored as its slots and its numbers
abbrev pub folder_code : Coded FolderState
folder_code =
    code_by (Slots × (ℕ × (List ℕ × (ℕ × ℕ))))
    (coded× (map.code (coded_list coded_ℕ) slot_code) (coded× coded_ℕ (coded× (coded_list coded_ℕ) (coded× coded_ℕ coded_ℕ))))
    (λ s. (s.slots, (s.calls.made, (s.calls.failing, (s.read_faults, s.write_faults)))))
    (λ p. record { slots = p.0; calls = record { made = p.1.0; failing = p.1.1.0 }; read_faults = p.1.1.1.0; write_faults = p.1.1.1.1 })
    (λ _. refl)

-- what each name of the folder holds
abbrev pub content_of : FolderState → Files
content_of folder name = option_and_then (λ slot. slot.content) (map.get folder.slots name)

-- how many bytes a write of the name may have
abbrev pub room_of : FolderState → List ℕ → Option ℕ
room_of folder name = option_and_then (λ slot. slot.room) (map.get folder.slots name)

-- the folder with this slot for the name
abbrev pub with_slot : FolderState → List ℕ → Slot → FolderState
with_slot folder name slot = record folder { slots = map.insert folder.slots name slot }

-- the folder whose name holds these bytes; its room stays
abbrev pub with_content : FolderState → List ℕ → List ℕ → FolderState
with_content folder name bytes = with_slot folder name (record { content = Some bytes; room = room_of folder name })

-- the folder in which a write of the name may have `len` bytes; what it holds stays
abbrev pub with_room : FolderState → List ℕ → ℕ → FolderState
with_room folder name len = with_slot folder name (record { content = content_of folder name; room = Some len })

-- `len` bytes are more than the room, or there is none
abbrev pub LacksRoom : Option ℕ → ℕ → Type 0
LacksRoom None len = Unit {0}
LacksRoom (Some room) len = room < len

-- a sink in memory: the bytes that were put, and how many more there is room for
pub record SinkState : Type 0 where
  pub bytes : List ℕ
  pub room : ℕ
  pub calls : Calls
  pub faults : ℕ
