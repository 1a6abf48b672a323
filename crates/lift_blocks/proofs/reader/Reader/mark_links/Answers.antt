use Rattle.std.proofs.Common.{◌∙◌, ap, map, [], arith}
use Rattle.std.specs.List.{cons_option}
use Rattle.relocs.specs.AddressMap.{link_at}
use Rattle.lift_blocks.specs.declared.site.Site.TheVariants.{Code}
use Rattle.lift_blocks.specs.Kept.{site_of}
use Rattle.lift_blocks.specs.Marks.{with_mark, with_marks}
use Rattle.lift_blocks.proofs.Finding.{mapped_at}
use Rattle.lift_blocks.proofs.Uses.{fold_some}
use Rattle.lift_blocks.proofs.reader.Reader.mark_links.Goals as goal

pub link-link-requires : goal.link-link-requires
link-link-requires g c =
    (c.requires.0, c.requires.1.1.0.each c.loop-at.at _ (mapped_at c.args.places.now c.loop-at.at (Code 0 0 0) (omega arith)))

pub loop-at-preserved : goal.loop-at-preserved
loop-at-preserved g c =
    fold_some (with_mark (map site_of c.args.places.now)) c.args.marks.now (link_at g.given) (map site_of c.args.places.now) c.loop-at.at _ c.loop-at.marks c.mark_any.new.marks
    (mapped_at c.args.places.now c.loop-at.at (Code 0 0 0) (omega arith))
    c.loop-at.invariant
    (c.mark_any.ensures ∙ ap (λ o. with_marks (map site_of c.args.places.now) c.loop-at.marks (cons_option o [])) c.link-link.ensures)
