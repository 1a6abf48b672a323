use Rattle.std.proofs.Common.{◌≡◌, map, take}
use Rattle.std.specs.List.{filter_map}
use Rattle.elf_objects.specs.Objects.{relocations_of}
use Rattle.symbols.specs.Parts.{object_at}
use Rattle.symbols.specs.Wanted.{given_of}
use Rattle.relocs.specs.AddressMap.{address_named}
use Rattle.lift_blocks.specs.Kept.{site_of}
use Rattle.lift_blocks.specs.Marks.{with_marks}
use Rattle.lift_blocks.proofs.needed.mark_table.Given as goal

abbrev pub invariant-loop-at : goal.invariant-loop-at
invariant-loop-at g l =
    l.marks ≡ with_marks (map site_of l.places) l.initial.marks (filter_map (address_named (given_of l.objects g.wanted) l.object) (take l.at (relocations_of (object_at l.objects l.object) l.section)))
