use Rattle.std.proofs.Common.{sym, subst}
use Rattle.elf_objects.specs.Objects.{relocations_of}
use Rattle.symbols.specs.Parts.{object_at}
use Rattle.relocs.specs.ByOffset.{IsRow}
use Rattle.relocs.proofs.CodeWords.{row_there}
use Rattle.relocs.proofs.tables.Tables.row.Goals as goal

pub returns : goal.returns
returns c =
    let row = row_there c.args.objects.now c.args.self.now c.args.object c.args.section c.rows.result.now c.row.result.now c.requires.tables c.rows.ensures c.row.ensures in
    subst (IsRow (relocations_of (object_at c.args.objects.now c.args.object) c.args.section)) (sym c.relocations.ensures) row.index.row_is
