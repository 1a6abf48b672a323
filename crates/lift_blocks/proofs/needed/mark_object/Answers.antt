use Rattle.std.proofs.Common.{map}
use Rattle.symbols.specs.Wanted.{given_of}
use Rattle.relocs.specs.AddressMap.{addresses_named}
use Rattle.lift_blocks.specs.Kept.{site_of}
use Rattle.lift_blocks.specs.Marks.{with_mark}
use Rattle.lift_blocks.proofs.Uses.{fold_each, fold_none}
use Rattle.lift_blocks.proofs.needed.mark_object.Goals as goal

pub loop-section-init : goal.loop-section-init
loop-section-init g c = fold_none (with_mark (map site_of c.args.places.now)) c.args.marks.now (addresses_named (given_of c.args.objects.now g.wanted) c.args.object)

pub loop-section-preserved : goal.loop-section-preserved
loop-section-preserved g c =
    fold_each (with_mark (map site_of c.args.places.now)) c.args.marks.now (addresses_named (given_of c.args.objects.now g.wanted) c.args.object) c.loop-section.section _ _ c.loop-section.invariant c.mark_section.ensures
