use Rattle.std.proofs.Common.{length, map}
use Rattle.faults.specs.Present.{each_below}
use Rattle.symbols.specs.Parts.{object_at}
use Rattle.symbols.specs.Wanted.{given_of}
use Rattle.relocs.specs.AddressMap.{addresses_named}
use Rattle.lift_blocks.specs.Kept.{site_of}
use Rattle.lift_blocks.specs.Marks.{with_mark}
use Rattle.lift_blocks.proofs.Uses.{fold_each, fold_none}
use Rattle.lift_blocks.proofs.needed.mark_addresses.Goals as goal

pub loop-object-init : goal.loop-object-init
loop-object-init g c =
    fold_none (with_mark (map site_of c.args.places.now)) c.args.marks.now (λ o. each_below (length (object_at c.args.objects.now o).sections) (addresses_named (given_of c.args.objects.now g.wanted) o))

pub loop-object-preserved : goal.loop-object-preserved
loop-object-preserved g c =
    fold_each (with_mark (map site_of c.args.places.now)) c.args.marks.now (λ o. each_below (length (object_at c.args.objects.now o).sections) (addresses_named (given_of c.args.objects.now g.wanted) o)) c.loop-object.object _ _
    c.loop-object.invariant c.mark_object.ensures
