-- The bytes of a section, and the names in a string table (gABI, "Sections" and "String Table").
use Rattle.std.specs.Prelude.{◌≡◌, ℕ, ◌+◌, ◌≤◌, nat_lt, nat_eq, ◌==◌, Bool, not, cond, ◌&&◌, List, [], length, take, drop}
use Rattle.std.specs.List.{starts_with, list_any, position}
use Rattle.std.specs.Option.{unwrap_or}
use Rattle.elf_objects.specs.Headers.{header_of, name_section}
use Rattle.elf_objects.specs.declared.section_header.SectionHeader.{SectionHeader}

-- some byte of a section lies past the file; a section of size 0 has none, wherever its offset is
abbrev pub lies_past : List ℕ → SectionHeader → Bool
lies_past b h = not (h.size == 0) && nat_lt (length b) (h.offset + h.size)

-- the bytes of a section, none where some lie past the file
unfoldable pub bytes_of : List ℕ → SectionHeader → List ℕ
bytes_of b h = cond (lies_past b h) [] (take h.size (drop h.offset b))

-- a name begins at an index of a string table: there is a 00 there or after it
unfoldable pub has_name : List ℕ → ℕ → Bool
has_name table at = list_any (λ x. x == 0) (drop at table)

-- the name at a place, up to the first 00
unfoldable pub name_at : List ℕ → ℕ → List ℕ
name_at table at = let rest = drop at table in take (unwrap_or (position (λ x. x == 0) rest) (length rest)) rest

-- a name begins at a place, and it begins with a word that has no 00
abbrev pub name_begins : List ℕ → ℕ → List ℕ → Bool
name_begins table at word = has_name table at && starts_with nat_eq (drop at table) word

-- the names of sections
abbrev pub section_names : List ℕ → List ℕ
section_names b = bytes_of b (header_of b (name_section b))

-- names begin below an index of a string table, the one after its last 00
pub record EndsNames (table : List ℕ) (end : ℕ) : Type 0 where
  pub within : end ≤ length table
  pub last : (at : ℕ) → has_name table at ≡ nat_lt at end
