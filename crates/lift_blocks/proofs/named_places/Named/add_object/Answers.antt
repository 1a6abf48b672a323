use Rattle.symbols.specs.Wanted.{given_of}
use Rattle.layout.specs.Slots.{with_place}
use Rattle.relocs.specs.Pairs.{named_in}
use Rattle.lift_blocks.specs.CodeList.{test_of}
use Rattle.lift_blocks.proofs.Uses.{fold_each, fold_none}
use Rattle.lift_blocks.proofs.named_places.Named.add_object.Goals as goal

pub loop-section-init : goal.loop-section-init
loop-section-init g c = fold_none with_place c.args.self.now (named_in (test_of c.args.targets) (given_of c.args.objects.now g.wanted) c.args.object)

pub loop-section-preserved : goal.loop-section-preserved
loop-section-preserved g c =
    fold_each with_place c.args.self.now (named_in (test_of c.args.targets) (given_of c.args.objects.now g.wanted) c.args.object) c.loop-section.section _ _ c.loop-section.invariant c.in_ok-add_section.ensures
