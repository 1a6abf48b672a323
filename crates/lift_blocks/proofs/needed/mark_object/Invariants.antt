use Rattle.std.proofs.Common.{◌≡◌, map}
use Rattle.faults.specs.Present.{each_below}
use Rattle.symbols.specs.Wanted.{given_of}
use Rattle.relocs.specs.AddressMap.{addresses_named}
use Rattle.lift_blocks.specs.Kept.{site_of}
use Rattle.lift_blocks.specs.Marks.{with_marks}
use Rattle.lift_blocks.proofs.needed.mark_object.Given as goal

abbrev pub ghost-mark_section : goal.ghost-mark_section
ghost-mark_section g a = g.wanted

abbrev pub invariant-loop-section : goal.invariant-loop-section
invariant-loop-section g l = l.marks ≡ with_marks (map site_of l.places) l.initial.marks (each_below l.section (addresses_named (given_of l.objects g.wanted) l.object))
