-- The order of all places, by numbers: code by object, section and offset, and after it the operations of the stubs.
use Rattle.std.specs.Prelude.{◌≡◌, ℕ, ◌+◌, ◌*◌, ◌^◌, ◌<◌, ◌≤◌, List, length, Option, Some, None, Bool, false, slice_get}
use Rattle.symbols.specs.Parts.{object_at}
use Rattle.symbols.specs.Wanted.{Given, kept_objects}
use Rattle.relocs.specs.Places.{CodePlace, Code, Stub, Nowhere, code_at, same_place}

unfoldable pub code_rank : ℕ → ℕ → ℕ → ℕ
code_rank o s offset = (o * 2 ^ 32 + s) * 2 ^ 64 + offset

unfoldable pub rank_of : CodePlace → ℕ
rank_of (Code o s offset) = code_rank o s offset
rank_of (Stub n at) = 2 ^ 128 + 2 * n + at
rank_of Nowhere = 2 ^ 129

-- the places rise
pub record Ascends (places : List CodePlace) : Type 0 where
  pub rises : (i j : ℕ) (p q : CodePlace) → i < j → slice_get places i ≡ Some p → slice_get places j ≡ Some q → rank_of p < rank_of q

-- there is a place, and it is this one
abbrev pub is_that : CodePlace → Option CodePlace → Bool
is_that p None = false
is_that p (Some q) = same_place p q

-- the first index from one up to another at which no place before this is
pub record IsFirstFrom (places : List CodePlace) (p : CodePlace) (from to i : ℕ) : Type 0 where
  pub below : (k : ℕ) (q : CodePlace) → from ≤ k → k < i → slice_get places k ≡ Some q → rank_of q < rank_of p
  pub above : (k : ℕ) (q : CodePlace) → i ≤ k → k < to → slice_get places k ≡ Some q → rank_of p ≤ rank_of q

-- numbers of objects and of sections fit in 32 bits, and offsets in 64
pub record IsSmall (given : Given) : Type 0 where
  pub objects : length (kept_objects given) ≤ 2 ^ 32
  pub sections : (o : ℕ) → length (object_at (kept_objects given) o).sections ≤ 2 ^ 32
  pub code : (o s : ℕ) (bytes : List ℕ) → code_at given o s ≡ Some bytes → length bytes < 2 ^ 63
