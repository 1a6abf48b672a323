use Rattle.std.proofs.Common.{◌∙◌, ◌*◌, ◌++◌, ◌∷◌, [], refl, ap}
use Rattle.std.specs.Prelude.{if◌then◌else◌, not}
use Rattle.lift_blocks.specs.declared.site.Site.{Site}
use Rattle.lift_blocks.specs.declared.site.Site.TheVariants as sites
use Rattle.lift_blocks.specs.CodeList.{is_first}
use Rattle.lift_blocks.proofs.Walks.{site_more}
use Rattle.lift_blocks.proofs.reader.Reader.add_section.Goals as goal

pub loop-at-preserved : goal.loop-at-preserved
loop-at-preserved g c =
    let site : Site = sites.Code c.args.object c.args.section (4 * c.loop-at.at) in
    site_more (is_first g.given) c.reserve.new.self.items c.loop-at.places.items c.push_unless.new.places.items c.args.object c.args.section c.loop-at.at site c.loop-at.invariant
    (c.in_ok-push_unless.ensures ∙ ap (λ b. c.loop-at.places.items ++ (if not b then site ∷ [] else [])) c.is_second-second.ensures) refl
