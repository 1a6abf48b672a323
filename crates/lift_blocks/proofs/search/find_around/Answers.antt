use Rattle.std.proofs.Common.{◌∙◌, sym}
use Rattle.lift_blocks.specs.Kept.{site_of}
use Rattle.lift_blocks.proofs.Finding.{site_found, site_absent}
use Rattle.lift_blocks.proofs.search.find_around.Goals as goal

pub returns-then-is_at : goal.returns-then-is_at
returns-then-is_at c = site_found c.args.places.now (site_of c.args.place) c.first_from-around.result c.requires (sym c.is_at.ensures ∙ c.if-is_at.true)

pub returns-then-is_at-2 : goal.returns-then-is_at-2
returns-then-is_at-2 c = site_found c.args.places.now (site_of c.args.place) c.first_from-first.result c.requires (sym c.is_at-2.ensures ∙ c.if-is_at-2.true)

pub returns-else-is_at-2 : goal.returns-else-is_at-2
returns-else-is_at-2 c = site_absent c.args.places.now (site_of c.args.place) c.first_from-first.result c.requires c.first_from-first.ensures (sym c.is_at-2.ensures ∙ c.if-is_at-2.false)
