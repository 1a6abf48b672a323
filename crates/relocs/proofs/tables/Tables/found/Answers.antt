use Rattle.std.proofs.Common.{◌∙◌, ap}
use Rattle.elf_objects.specs.Objects.{relocations_of}
use Rattle.symbols.specs.Parts.{object_at}
use Rattle.relocs.specs.Pairs.{relocation_is_at}
use Rattle.relocs.specs.Sites.{found_of}
use Rattle.relocs.proofs.ByOffset.{named_high}
use Rattle.relocs.proofs.CodeWords.{row_there}
use Rattle.relocs.proofs.tables.Tables.found.Goals as goal

pub found-requires : goal.found-requires
found-requires c = (row_there c.args.objects.now c.args.self.now c.args.object c.args.section c.rows.result.now c.row.result.now c.requires.tables c.rows.ensures c.row.ensures).parts

pub returns-clause-found : goal.returns-clause-found
returns-clause-found c =
    let row = row_there c.args.objects.now c.args.self.now c.args.object c.args.section c.rows.result.now c.row.result.now c.requires.tables c.rows.ensures c.row.ensures in
    c.found.ensures ∙ ap found_of (row.index.row_is.each c.args.offset)

pub returns-clause-named : goal.returns-clause-named
returns-clause-named c =
    let object = object_at c.args.objects.now c.args.object in
    let row = row_there c.args.objects.now c.args.self.now c.args.object c.args.section c.rows.result.now c.row.result.now c.requires.tables c.rows.ensures c.row.ensures in
    named_high object (relocation_is_at c.args.offset) (relocations_of object c.args.section) c.found.result row.index.named (c.found.ensures ∙ ap found_of (row.index.row_is.each c.args.offset))
