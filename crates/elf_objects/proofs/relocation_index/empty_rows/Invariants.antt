use Rattle.elf_objects.specs.Index.{IsEmptyAt}
use Rattle.elf_objects.proofs.relocation_index.empty_rows.Given as goal

abbrev pub invariant-loop : goal.invariant-loop
invariant-loop l = IsEmptyAt l.rows.items l.counter
