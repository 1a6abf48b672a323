-- What is lifted, and all its places.
use Rattle.std.specs.Prelude.{◌≡◌, ◌≤◌, ◌^◌, ℕ, [], length, map, Some, slice_get}
use Rattle.symbols.specs.Faults.{symbol_faults}
use Rattle.symbols.specs.Resolved.{IsResolved}
use Rattle.symbols.specs.Wanted.{Given, Wanted, Import, IsHostNumber}
use Rattle.layout.specs.Placed.{IsPlaced}
use Rattle.relocs.specs.AddressMap.{named_places}
use Rattle.relocs.specs.Places.{has}
use Rattle.lift_blocks.specs.declared.lifting.Link.{Link}
use Rattle.lift_blocks.specs.declared.lifting.Places.{Places}
use Rattle.lift_blocks.specs.Kept.{site_of}
use Rattle.lift_blocks.specs.Known.{AreAll}

-- it is what a link is given, whose names and data have no fault
pub record IsLink (given : Given) (link : Link) : Type 0 where
  pub objects_are : link.objects.now ≡ given.objects
  pub wanted_is : link.wanted.now ≡ given.wanted
  pub resolved_is : IsResolved given link.resolved.now
  pub placed_is : IsPlaced given link.placed.now
  pub names_are : symbol_faults given ≡ []

-- all places, and which of them something names
pub record ArePlaces (given : Given) (places : Places) : Type 0 where
  pub all_are : AreAll given (map site_of places.all.items)
  pub few : length places.all.items ≤ 2 ^ 28
  pub named_are : places.named.items ≡ map (has (named_places given)) (map site_of places.all.items)

-- the numbers of host calls fit in 31 bits
pub record HaveSmallNumbers (wanted : Wanted) : Type 0 where
  pub each : (i : ℕ) (one : Import) → slice_get wanted.imports i ≡ Some one → IsHostNumber one.kind
