use Rattle.std.proofs.Common.{◌∙◌, subst, sym}
use Rattle.relocs.specs.Sites.{HasSize}
use Rattle.relocs.proofs.CodeWords.{code_there, kept, row_there}
use Rattle.relocs.proofs.tables.Tables.size.Goals as goal

pub returns : goal.returns
returns c =
    let row = row_there c.args.objects.now c.args.self.now c.args.object c.args.section c.rows.result.now c.row.result.now c.requires.tables c.rows.ensures c.row.ensures in
    subst (λ code. HasSize code c.size.result) (sym (code_there c.args.objects.now c.args.object c.args.section c.requires.code))
    (c.size.ensures ∙ (kept c.args.objects.now c.args.object c.args.section c.row.result.now c.requires.code row.code_is).1)
