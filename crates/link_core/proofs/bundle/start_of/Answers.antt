use Rattle.link_core.proofs.PartsLaws.{start_is}
use Rattle.link_core.proofs.bundle.start_of.Goals as goal

pub returns-else-at-eq0 : goal.returns-else-at-eq0
returns-else-at-eq0 c = start_is c.args.ends.now c.args.at c.if-at-eq0.false c.requires
