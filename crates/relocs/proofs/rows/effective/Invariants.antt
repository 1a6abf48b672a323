use Rattle.std.proofs.Common.{◌≡◌, take}
use Rattle.std.specs.List.{filter}
use Rattle.elf_objects.specs.Objects.{relocations_of}
use Rattle.relocs.specs.ByOffset.{changes_something}
use Rattle.relocs.proofs.ByOffset.{NamedBelow}
use Rattle.relocs.proofs.rows.effective.Given as goal

abbrev pub invariant-loop-at : goal.invariant-loop-at
invariant-loop-at l =
    (l.found.items ≡ filter changes_something (take l.at (relocations_of l.object l.section))) × NamedBelow l.object (relocations_of l.object l.section) l.at
