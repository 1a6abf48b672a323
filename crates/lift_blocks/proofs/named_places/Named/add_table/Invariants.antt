use Rattle.std.proofs.Common.{◌≡◌, take}
use Rattle.std.specs.Prelude.{fold}
use Rattle.std.specs.List.{filter_map}
use Rattle.elf_objects.specs.Objects.{relocations_of}
use Rattle.symbols.specs.Parts.{object_at}
use Rattle.symbols.specs.Wanted.{given_of}
use Rattle.layout.specs.Slots.{with_place}
use Rattle.relocs.specs.Pairs.{named_if}
use Rattle.lift_blocks.specs.CodeList.{test_of}
use Rattle.lift_blocks.proofs.named_places.Named.add_table.Given as goal

abbrev pub invariant-loop-at : goal.invariant-loop-at
invariant-loop-at g l =
    l.self ≡ fold with_place l.initial.self (filter_map (named_if (test_of l.targets) (given_of l.objects g.wanted) l.object) (take l.at (relocations_of (object_at l.objects l.object) l.section)))
