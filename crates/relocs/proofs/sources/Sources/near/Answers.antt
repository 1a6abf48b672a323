use Rattle.relocs.proofs.Nearby.{near_row}
use Rattle.relocs.proofs.sources.Sources.near.Goals as goal

pub returns-in-Some-clause-at : goal.returns-in-Some-clause-at
returns-in-Some-clause-at g c =
    near_row g.given c.args.object c.args.section c.args.offset c.args.self.now.objects.now c.at.result.now c.requires.0.objects_are c.requires.1.1 c.at.ensures.at
