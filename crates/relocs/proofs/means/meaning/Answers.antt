use Rattle.std.proofs.Common.{sym, ◌∙◌}
use Rattle.relocs.proofs.DataTables.{is_relocation}
use Rattle.relocs.proofs.means.meaning.Goals as goal

pub operand-requires : goal.operand-requires
operand-requires g c = (
  record { objects_are = c.requires.0.objects_are; resolved_is = c.requires.0.resolved_is; placed_is = c.requires.0.placed_is; map_is = c.requires.0.map_is; tables_are = tt },
  (
    c.requires.1.0,
    (
      is_relocation g.given c.args.object c.args.section c.args.at c.relocation-relocation.result c.requires.1.0.0 c.relocation-relocation.ensures.keeps c.relocation-relocation.ensures.entry,
      (c.relocation-relocation.ensures.keeps.named, sym c.refusal_code.ensures ∙ c.in-None.is),
    ),
  ),
)
