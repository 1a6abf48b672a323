use Rattle.std.proofs.Common.{take}
use Rattle.elf_objects.specs.Objects.{relocations_of}
use Rattle.symbols.specs.Faults.{is_named_among}
use Rattle.symbols.specs.Names.{AddsMarks}
use Rattle.symbols.proofs.named.mark_relocations.Given as goal

abbrev pub invariant-loop-at : goal.invariant-loop-at
invariant-loop-at l = AddsMarks l.initial.marks l.marks (λ number. is_named_among (take l.at (relocations_of l.object l.section)) number)
