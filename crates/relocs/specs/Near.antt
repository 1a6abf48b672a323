-- The relocations that are read to find those at one offset.
use Rattle.std.specs.Prelude.{◌≡◌, ◌<◌, List, length}
use Rattle.elf_objects.specs.declared.parts.Relocation.{Relocation}
use Rattle.elf_objects.specs.Objects.{Object, relocations_of}
use Rattle.relocs.specs.ByOffset.{AreNamed}
use Rattle.relocs.specs.declared.near.Relocations.{Relocations}
use Rattle.relocs.specs.declared.near.Relocations.TheVariants.{Table, Row}

-- the relocations that are read
abbrev pub items_of : Relocations → List Relocation
items_of (Table object section) = relocations_of object.now section
items_of (Row relocations) = relocations.now

-- a table is that of a section of its object
abbrev pub IsThere : Relocations → Type 0
IsThere (Table object section) = section < length object.now.sections
IsThere (Row relocations) = Unit {0}

-- they are relocations of an object
abbrev pub BelongTo : Object → Relocations → Type 0
BelongTo of (Table object section) = object.now ≡ of
BelongTo of (Row relocations) = AreNamed of relocations.now
