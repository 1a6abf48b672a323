use Rattle.std.proofs.Common.{◌≡◌, None}
use Rattle.faults.specs.First.{first_below}
use Rattle.elf_objects.specs.FirstFaults.{symbol_refusal}
use Rattle.elf_objects.proofs.symbol_rules.check_symbols.Given as goal

abbrev pub invariant-loop-section : goal.invariant-loop-section
invariant-loop-section l = first_below l.section (symbol_refusal l.tables.file.bytes.now) ≡ None
