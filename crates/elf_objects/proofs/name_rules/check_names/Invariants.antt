use Rattle.std.proofs.Common.{◌≡◌, None}
use Rattle.faults.specs.First.{first_below}
use Rattle.elf_objects.specs.FirstFaults.{name_refusal}
use Rattle.elf_objects.proofs.name_rules.check_names.Given as goal

abbrev pub invariant-loop-section : goal.invariant-loop-section
invariant-loop-section l = first_below l.section (name_refusal l.tables.file.bytes.now) ≡ None
