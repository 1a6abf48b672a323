use Rattle.symbols.specs.Wanted.{given_of}
use Rattle.lift_blocks.proofs.Uses.{table_more}
use Rattle.lift_blocks.proofs.named_places.Named.add_table.Goals as goal

pub loop-at-preserved : goal.loop-at-preserved
loop-at-preserved g c =
    table_more c.args.targets (given_of c.args.objects.now g.wanted) c.args.resolved.now c.args.object c.args.section c.loop-at.at c.object-in-loop-at.result.now c.relocation-relocation.result c.place.result
    c.args.self.now c.loop-at.self _ c.requires.0 c.object-in-loop-at.ensures c.relocation-relocation.ensures.entry c.relocation-relocation.ensures.keeps.named c.place.ensures
    c.loop-at.invariant c.in_ok-add_use.ensures
