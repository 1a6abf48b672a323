use Rattle.std.proofs.Common.{◌∙◌, ap, sym}
use Rattle.relocs.specs.Words.{word_in}
use Rattle.relocs.proofs.CodeWords.{code_there, kept, kept_word_is, row_there}
use Rattle.relocs.proofs.tables.Tables.word.Goals as goal

pub returns : goal.returns
returns c =
    let row = row_there c.args.objects.now c.args.self.now c.args.object c.args.section c.rows.result.now c.row.result.now c.requires.tables c.rows.ensures c.row.ensures in
    let words = (kept c.args.objects.now c.args.object c.args.section c.row.result.now c.requires.code row.code_is).0 in
    c.word.ensures ∙ kept_word_is _ c.row.result.now.words words c.args.offset ∙ ap (λ code. word_in code c.args.offset) (sym (code_there c.args.objects.now c.args.object c.args.section c.requires.code))
