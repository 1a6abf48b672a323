use Rattle.std.proofs.Common.{subst}
use Rattle.elf_objects.specs.Objects.{relocations_of}
use Rattle.symbols.specs.Parts.{object_at}
use Rattle.symbols.specs.Wanted.{kept_objects}
use Rattle.relocs.specs.ByOffset.{IsRow}
use Rattle.lift_blocks.proofs.PlainWords.{aligned_table}
use Rattle.lift_blocks.proofs.first_fault.CodeFaults.first_unaligned.Goals as goal

pub returns : goal.returns
returns g c =
    aligned_table (relocations_of (object_at (kept_objects g.given) c.args.object) c.args.section) c.row.result.now c.least_unaligned.result
    (subst (λ objects. IsRow (relocations_of (object_at objects c.args.object) c.args.section) c.row.result.now) c.requires.0.tables_are.objects_are c.row.ensures) c.least_unaligned.ensures
