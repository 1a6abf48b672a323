-- What the meaning of relocations depends on, as it is kept.
use Rattle.std.specs.Prelude.{◌≡◌, ◌<◌, ℕ, List, length, Some, slice_get, IfSome, IsSomeAnd}
use Rattle.elf_objects.specs.declared.parts.Relocation.{Relocation}
use Rattle.symbols.specs.Parts.{object_at}
use Rattle.layout.specs.Slots.{loaded_relocations}
use Rattle.elf_objects.specs.Objects.{Object}
use Rattle.symbols.specs.Resolved.{Resolved, IsResolved}
use Rattle.symbols.specs.Wanted.{Given, kept_objects}
use Rattle.layout.specs.Placed.{Placed, IsPlaced}
use Rattle.relocs.specs.Places.{CodePlace}
use Rattle.relocs.specs.AddressMap.{needed_places}
use Rattle.relocs.specs.ByOffset.{HasTables}
use Rattle.relocs.specs.declared.sources.Sources.{Sources}

-- objects, what their symbols stand for, where data are loaded, and the address map: those of what a link is given
pub record AreSources (given : Given) (objects : List Object) (resolved : Resolved) (placed : Placed) (map : List CodePlace) : Type 0 where
  pub objects_are : objects ≡ (kept_objects given)
  pub resolved_is : IsResolved given resolved
  pub placed_is : IsPlaced given placed
  pub map_is : map ≡ needed_places given

-- the same of sources, whose index of relocations is that of the objects, where they have one
pub record IsSourcesOf (given : Given) (sources : Sources) : Type 0 where
  pub objects_are : sources.objects.now ≡ (kept_objects given)
  pub resolved_is : IsResolved given sources.resolved.now
  pub placed_is : IsPlaced given sources.placed.now
  pub map_is : sources.map.now ≡ needed_places given
  pub tables_are : IfSome sources.tables (λ tables. HasTables sources.objects.now tables.now)

-- a relocation of a loaded section, at a number in the section's table
pub record IsRelocation (given : Given) (o s : ℕ) (r : Relocation) : Type 0 where
  pub at : ℕ
  pub object_in : o < length (kept_objects given)
  pub section_in : s < length (object_at (kept_objects given) o).sections
  pub entry : slice_get (loaded_relocations given o s) at ≡ Some r

-- relocations of a section, whose symbols are in the section's object
pub record AreRelocations (given : Given) (o s : ℕ) (relocations : List Relocation) : Type 0 where
  pub each : (i : ℕ) (r : Relocation) → slice_get relocations i ≡ Some r → IsRelocation given o s r × (r.symbol < length (object_at (kept_objects given) o).symbols)

-- a number is the size of a section
abbrev pub HasRoom : Given → ℕ → ℕ → ℕ → Type 0
HasRoom given o s bytes = IsSomeAnd (slice_get (object_at (kept_objects given) o).sections s) (λ section. section.size ≡ bytes)
