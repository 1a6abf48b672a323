-- How a memory keeps its pages: in a page table of two levels, the root and its leaves, with 1,024 places each. A page
-- that is kept with the mode Unmapped is reserved, and no page of the memory.
use Rattle.std.specs.Prelude.{◌≡◌, ℕ, zero, suc, ◌+◌, ◌/◌, ◌%◌, ◌<◌, ◌≤◌, ◌^◌, List, [], ◌∷◌, length, Bool, true, false, ◌&&◌, nat_lt, nat_le, slice_index_or, slice_set, Option, Some, None, IsSome}
use Rattle.std.specs.FinMap as map
use Rattle.machine_state.specs.Memory as model
use Rattle.page_memory.specs.Access.{page_allows}
use Rattle.page_memory.specs.declared.mode.Mode.{Mode}
use Rattle.page_memory.specs.declared.mode.Mode.TheVariants.{Unmapped, Readable, Writable}

-- what is kept for a page number: a mode and 4096 bytes
pub record Kept : Type 0 where
  pub mode : Mode
  pub bytes : List ℕ

-- the page of the memory with this mode and these bytes, if it is one
abbrev pub page_with : Mode → List ℕ → Option model.Page
page_with Unmapped bytes = None
page_with Readable bytes = Some (record { mode = model.Readable; bytes = bytes })
page_with Writable bytes = Some (record { mode = model.Writable; bytes = bytes })

-- what is kept, as a page of the memory
abbrev pub page_of : Kept → Option model.Page
page_of kept = page_with kept.mode kept.bytes

-- the same for a place that may be empty
abbrev pub page_in : Option Kept → Option model.Page
page_in None = None
page_in (Some kept) = page_of kept

-- the memory with the given page at a number, or with none there
abbrev pub with_page : model.Memory → ℕ → Option model.Page → model.Memory
with_page memory number None = map.remove memory number
with_page memory number (Some page) = map.insert memory number page

-- the places of a leaf, where there is one
abbrev pub Leaf : Type 0
Leaf = Option (List (Option Kept))

-- what is kept at a place of a leaf
abbrev pub kept_in : Leaf → ℕ → Option Kept
kept_in None at = None
kept_in (Some places) at = slice_index_or places at None

-- what is kept for a page number
abbrev pub kept_at : List Leaf → ℕ → Option Kept
kept_at table number = kept_in (slice_index_or table (number / 1024) None) (number % 1024)

-- a leaf with something else at a place
abbrev pub leaf_with : Leaf → ℕ → Option Kept → Leaf
leaf_with None at page = None
leaf_with (Some places) at page = Some (slice_set places at page)

-- the page table with something else at the place of a number
abbrev pub with_place : List Leaf → ℕ → Option Kept → List Leaf
with_place table number page = slice_set table (number / 1024) (leaf_with (slice_index_or table (number / 1024) None) (number % 1024) page)

-- a page is kept for a number
abbrev pub IsKept : List Leaf → ℕ → Type 0
IsKept table number = IsSome (kept_at table number)

-- a leaf has a place
abbrev pub HasPlaceIn : Leaf → ℕ → Type 0
HasPlaceIn None at = ⊥
HasPlaceIn (Some places) at = at < length places

-- the page table has a place for a number
abbrev pub HasPlace : List Leaf → ℕ → Type 0
HasPlace table number = HasPlaceIn (slice_index_or table (number / 1024) None) (number % 1024)

-- the same is kept for each number
abbrev pub SamePlaces : List Leaf → List Leaf → Type 0
SamePlaces old new = (number : ℕ) → kept_at new number ≡ kept_at old number

-- the pages of the memory with numbers below the given one
unfoldable pub pages_below : List Leaf → ℕ → model.Memory
pages_below table zero = model.no_memory
pages_below table (suc number) = with_page (pages_below table number) number (page_in (kept_at table number))

-- the memory that a page table keeps
unfoldable pub memory_of : List Leaf → model.Memory
memory_of table = pages_below table (2 ^ 20)

-- pages have the numbers from 16 on, below 2^20
abbrev pub is_page_number : ℕ → Bool
is_page_number number = nat_le 16 number && nat_lt number (2 ^ 20)

-- so their addresses are those from 2^16 on, below 2^32: no page has another number
abbrev pub HasAddresses : model.Memory → Type 0
HasAddresses memory = (number : ℕ) → is_page_number number ≡ false → map.get memory number ≡ None

-- the bytes of a page with others from an offset on
unfoldable pub with_bytes_from : List ℕ → ℕ → List ℕ → List ℕ
with_bytes_from page offset [] = page
with_bytes_from page offset (byte ∷ bytes) = with_bytes_from (slice_set page offset byte) (offset + 1) bytes

-- a page takes `len` bytes at an offset: it may be written, and they end within it
abbrev pub takes : Option model.Page → ℕ → ℕ → Bool
takes page offset len = page_allows true page && nat_le (offset + len) model.page_size
