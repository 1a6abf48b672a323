use Rattle.elf_objects.specs.Index.{IsIndexed}
use Rattle.elf_objects.proofs.checked_file.relocation_rows.Given as goal

abbrev pub invariant-loop-section : goal.invariant-loop-section
invariant-loop-section l = IsIndexed l.tables.file.bytes.now l.rows.items l.section
