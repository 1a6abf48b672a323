-- Where the names of a string table end, and the index of that.
use Rattle.std.specs.Prelude.{◌≡◌, ℕ, ◌+◌, ◌*◌, ◌/◌, ◌^◌, ◌<◌, ◌≤◌, ◌==◌, min, List, length, drop, slice_index}
use Rattle.std.specs.List.{position_or_len}

-- where the name at a place ends: at the first 00, or with the table
unfoldable pub name_end : List ℕ → ℕ → ℕ
name_end table at = at + position_or_len (λ x. x == 0) (drop at table)

-- where a block of 64 bytes begins; past the table it is the table's end
abbrev pub block_start : List ℕ → ℕ → ℕ
block_start table block = min (64 * block) (length table)

-- for each block, and for the end of the table, where the name at its start ends
pub record HoldsEnds (table ends : List ℕ) : Type 0 where
  pub small : length table ≤ 2 ^ 24
  pub long : length ends ≡ length table / 64 + 2
  pub ends_are : (block : ℕ) → block < length ends → slice_index ends block ≡ name_end table (block_start table block)
