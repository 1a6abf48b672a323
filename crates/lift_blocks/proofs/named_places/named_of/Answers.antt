use Rattle.std.proofs.Common.{[], length, ◌∙◌}
use Rattle.symbols.specs.Parts.{object_at}
use Rattle.symbols.specs.Wanted.{given_of}
use Rattle.faults.specs.Present.{each_below}
use Rattle.layout.specs.Slots.{with_place}
use Rattle.relocs.specs.Pairs.{named_in}
use Rattle.lift_blocks.specs.CodeList.{test_of}
use Rattle.lift_blocks.proofs.Uses.{fold_each, fold_none}
use Rattle.lift_blocks.proofs.named_places.named_of.Goals as goal

pub loop-object-init : goal.loop-object-init
loop-object-init g c = c.new-named.ensures ∙ fold_none with_place [] (λ o. each_below (length (object_at c.args.objects.now o).sections) (named_in (test_of c.args.targets) (given_of c.args.objects.now g.wanted) o))

pub loop-object-preserved : goal.loop-object-preserved
loop-object-preserved g c =
    fold_each with_place [] (λ o. each_below (length (object_at c.args.objects.now o).sections) (named_in (test_of c.args.targets) (given_of c.args.objects.now g.wanted) o)) c.loop-object.object _ _
    c.loop-object.invariant c.in_ok-add_object.ensures
