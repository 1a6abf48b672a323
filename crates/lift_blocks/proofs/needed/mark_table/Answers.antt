use Rattle.std.proofs.Common.{map}
use Rattle.symbols.specs.Wanted.{given_of}
use Rattle.lift_blocks.specs.Kept.{site_of}
use Rattle.lift_blocks.proofs.Uses.{address_more}
use Rattle.lift_blocks.proofs.needed.mark_table.Goals as goal

pub loop-at-preserved : goal.loop-at-preserved
loop-at-preserved g c =
    address_more (map site_of c.args.places.now) (given_of c.args.objects.now g.wanted) c.args.resolved.now c.args.object c.args.section c.loop-at.at c.object-in-loop-at.result.now
    c.relocation-relocation.result c.place-place.result c.args.marks.now c.loop-at.marks c.mark_use.new.marks c.requires.1.1.0 c.object-in-loop-at.ensures c.relocation-relocation.ensures.entry
    c.relocation-relocation.ensures.keeps.named c.place-place.ensures c.loop-at.invariant c.mark_use.ensures
