use Rattle.std.proofs.Common.{◌≡◌, [], length}
use Rattle.std.specs.Prelude.{fold}
use Rattle.faults.specs.Present.{each_below}
use Rattle.symbols.specs.Parts.{object_at}
use Rattle.symbols.specs.Wanted.{given_of}
use Rattle.layout.specs.Slots.{with_place}
use Rattle.relocs.specs.Pairs.{named_in}
use Rattle.lift_blocks.specs.CodeList.{test_of}
use Rattle.lift_blocks.proofs.named_places.named_of.Given as goal

abbrev pub ghost-add_object : goal.ghost-add_object
ghost-add_object g a = g.wanted

abbrev pub invariant-loop-object : goal.invariant-loop-object
invariant-loop-object g l =
    l.named ≡ fold with_place [] (each_below l.object (λ o. each_below (length (object_at l.objects o).sections) (named_in (test_of l.targets) (given_of l.objects g.wanted) o)))
