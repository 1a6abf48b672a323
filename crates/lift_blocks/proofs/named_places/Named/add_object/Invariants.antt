use Rattle.std.proofs.Common.{◌≡◌}
use Rattle.std.specs.Prelude.{fold}
use Rattle.faults.specs.Present.{each_below}
use Rattle.symbols.specs.Wanted.{given_of}
use Rattle.layout.specs.Slots.{with_place}
use Rattle.relocs.specs.Pairs.{named_in}
use Rattle.lift_blocks.specs.CodeList.{test_of}
use Rattle.lift_blocks.proofs.named_places.Named.add_object.Given as goal

abbrev pub ghost-add_section : goal.ghost-add_section
ghost-add_section g a = g.wanted

abbrev pub invariant-loop-section : goal.invariant-loop-section
invariant-loop-section g l = l.self ≡ fold with_place l.initial.self (each_below l.section (named_in (test_of l.targets) (given_of l.objects g.wanted) l.object))
