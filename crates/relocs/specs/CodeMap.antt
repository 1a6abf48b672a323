-- The address map as it is kept: places of code and stubs of imports, in code order.
use Rattle.std.specs.Prelude.{◌≡◌, ℕ, ◌+◌, ◌-◌, ◌*◌, ◌<◌, ◌^◌, List, length, Some, Bool, true, false, slice_get}
use Rattle.symbols.specs.declared.place.Place.{Place}
use Rattle.symbols.specs.declared.place.Place.TheVariants as names
use Rattle.relocs.specs.Places.{CodePlace, Code, Stub, Nowhere}

-- the place of the source machine that a symbol's place is: the first place of the stub for an import
abbrev pub place_of : Place → CodePlace
place_of (names.Code o s offset) = Code o s offset
place_of (names.Import i) = Stub i 0
place_of place = Nowhere

-- it is code or an import
abbrev pub is_mapped : Place → Bool
is_mapped (names.Code o s offset) = true
is_mapped (names.Import i) = true
is_mapped place = false

-- places of code are ordered by object, section and offset
unfoldable pub code_rank : ℕ → ℕ → ℕ → ℕ
code_rank o s offset = (o * 2 ^ 32 + s) * 2 ^ 64 + offset

-- and the stubs are after them in their order
unfoldable pub rank_of : CodePlace → ℕ
rank_of (Code o s offset) = code_rank o s offset
rank_of (Stub n at) = 2 ^ 128 + n
rank_of Nowhere = 2 ^ 129

-- the places are in code order
pub record IsInOrder (places : List CodePlace) : Type 0 where
  pub rises : (i j : ℕ) (p q : CodePlace) → i < j → slice_get places i ≡ Some p → slice_get places j ≡ Some q → rank_of p < rank_of q

-- a place is after the last of these
abbrev pub IsAfter : List CodePlace → CodePlace → Type 0
IsAfter places p = (last : CodePlace) → slice_get places (length places - 1) ≡ Some last → rank_of last < rank_of p

-- all are code or imports
pub record AreMapped (places : List Place) : Type 0 where
  pub each : (i : ℕ) (place : Place) → slice_get places i ≡ Some place → is_mapped place ≡ true
