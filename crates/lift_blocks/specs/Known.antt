-- What is known of places that are listed.
use Rattle.std.specs.Prelude.{◌≡◌, ℕ, ◌+◌, ◌<◌, ◌^◌, List, Some, slice_get}
use Rattle.symbols.specs.declared.place.Place.{Place}
use Rattle.symbols.specs.declared.place.Place.TheVariants as names
use Rattle.symbols.specs.Wanted.{Given}
use Rattle.relocs.specs.Places.{CodePlace, Code, Stub, Nowhere}
use Rattle.relocs.specs.Pairs.{all_places}
use Rattle.relocs.specs.Sites.{IsCodeSection}
use Rattle.lift_blocks.specs.Rank.{code_rank, Ascends}

-- a place of code is in a code section, and there is room after it; a stub has two operations
abbrev pub IsKnown : Given → CodePlace → Type 0
IsKnown given (Code o s offset) = IsCodeSection given o s × (offset + 8 < 2 ^ 64) × (code_rank o s offset < 2 ^ 128)
IsKnown given (Stub n at) = at < 2
IsKnown given Nowhere = ⊥

pub record AreKnown (given : Given) (places : List CodePlace) : Type 0 where
  pub each : (i : ℕ) (p : CodePlace) → slice_get places i ≡ Some p → IsKnown given p

-- they are all places, in code order
pub record AreAll (given : Given) (places : List CodePlace) : Type 0 where
  pub are : places ≡ all_places given
  pub ascend : Ascends places
  pub known : AreKnown given places

-- a place that the address map may have: in a stub the first operation alone
abbrev pub IsMappable : CodePlace → Type 0
IsMappable (Code o s offset) = Unit {0}
IsMappable (Stub n at) = at ≡ 0
IsMappable Nowhere = ⊥

-- what the name of an entry stands for is code
abbrev pub IsCodePlace : Place → Type 0
IsCodePlace (names.Code o s offset) = Unit {0}
IsCodePlace place = ⊥
