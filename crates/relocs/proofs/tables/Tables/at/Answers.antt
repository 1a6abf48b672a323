use Rattle.std.proofs.Common.{◌∙◌}
use Rattle.elf_objects.specs.Objects.{relocations_of}
use Rattle.symbols.specs.Parts.{object_at}
use Rattle.relocs.specs.Pairs.{relocation_is_at}
use Rattle.relocs.proofs.ByOffset.{named_part}
use Rattle.relocs.proofs.CodeWords.{row_there}
use Rattle.relocs.proofs.tables.Tables.at.Goals as goal

pub at-requires : goal.at-requires
at-requires c = (row_there c.args.objects.now c.args.self.now c.args.object c.args.section c.rows.result.now c.row.result.now c.requires.tables c.rows.ensures c.row.ensures).parts

pub returns-clause-at : goal.returns-clause-at
returns-clause-at c =
    let row = row_there c.args.objects.now c.args.self.now c.args.object c.args.section c.rows.result.now c.row.result.now c.requires.tables c.rows.ensures c.row.ensures in
    c.at.ensures ∙ row.index.row_is.each c.args.offset

pub returns-clause-named : goal.returns-clause-named
returns-clause-named c =
    let object = object_at c.args.objects.now c.args.object in
    let row = row_there c.args.objects.now c.args.self.now c.args.object c.args.section c.rows.result.now c.row.result.now c.requires.tables c.rows.ensures c.row.ensures in
    named_part object (relocation_is_at c.args.offset) (relocations_of object c.args.section) c.at.result.now row.index.named (c.at.ensures ∙ row.index.row_is.each c.args.offset)
