use Rattle.relocs.proofs.Nearby.{of_row, are_relocations}
use Rattle.std.proofs.Common.{subst}
use Rattle.symbols.specs.Parts.{object_at}
use Rattle.relocs.specs.ByOffset.{AreNamed}
use Rattle.relocs.proofs.sources.Sources.relocations.Goals as goal

pub returns-clause-at : goal.returns-clause-at
returns-clause-at g c = of_row g.given c.args.object c.args.section c.args.offset c.args.self.now.objects.now c.at.result.now c.requires.0.objects_are c.requires.1.0.1 c.at.ensures.at

pub returns-clause-each : goal.returns-clause-each
returns-clause-each g c =
    are_relocations g.given c.args.object c.args.section c.args.offset c.at.result.now c.requires.1.0.0
    (subst (λ objects. AreNamed (object_at objects c.args.object) c.at.result.now) c.requires.0.objects_are c.at.ensures.named)
    (of_row g.given c.args.object c.args.section c.args.offset c.args.self.now.objects.now c.at.result.now c.requires.0.objects_are c.requires.1.0.1 c.at.ensures.at)
