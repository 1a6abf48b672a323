use Rattle.std.proofs.Common.{map, sym, ◌∙◌}
use Rattle.lift_blocks.specs.Kept.{site_of}
use Rattle.lift_blocks.proofs.ListedOps.{number_found}
use Rattle.lift_blocks.proofs.numbering.Numbers.number_of.Goals as goal

pub returns-in-Some : goal.returns-in-Some
returns-in-Some c = number_found (map site_of c.args.self.now.places.now) (site_of c.args.place) c.in-Some.at (sym c.find.ensures ∙ c.in-Some.is)
