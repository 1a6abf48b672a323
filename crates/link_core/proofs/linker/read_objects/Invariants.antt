use Rattle.std.proofs.Common.{◌≡◌, [], take}
use Rattle.std.specs.Prelude.{slice_get}
use Rattle.std.specs.List.{filter_map}
use Rattle.faults.specs.Present.{each_below}
use Rattle.elf_objects.specs.Reading.{object_of}
use Rattle.link_core.specs.Faults.{faults_in_file}
use Rattle.link_core.proofs.linker.read_objects.Given as goal

abbrev pub invariant-loop-at : goal.invariant-loop-at
invariant-loop-at l = record {
  none : each_below l.at (λ i. faults_in_file i (slice_get l.bundle i)) ≡ [];
  objects : l.objects ≡ filter_map object_of (take l.at l.bundle);
}
