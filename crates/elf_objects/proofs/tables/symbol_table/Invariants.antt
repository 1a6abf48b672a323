use Rattle.std.proofs.Common.{◌≡◌, ◌==◌, None}
use Rattle.faults.specs.First.{least_below}
use Rattle.elf_objects.specs.Headers.{header_of}
use Rattle.elf_objects.proofs.tables.symbol_table.Given as goal

abbrev pub invariant-loop-section : goal.invariant-loop-section
invariant-loop-section l = least_below l.section (λ i. (header_of l.file.bytes.now i).kind == 2) ≡ None
