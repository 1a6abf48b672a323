use Rattle.std.proofs.Common.{◌≡◌, length, map}
use Rattle.faults.specs.Present.{each_below}
use Rattle.symbols.specs.Parts.{object_at}
use Rattle.symbols.specs.Wanted.{given_of}
use Rattle.relocs.specs.AddressMap.{addresses_named}
use Rattle.lift_blocks.specs.Kept.{site_of}
use Rattle.lift_blocks.specs.Marks.{with_marks}
use Rattle.lift_blocks.proofs.needed.mark_addresses.Given as goal

abbrev pub ghost-mark_object : goal.ghost-mark_object
ghost-mark_object g a = g.wanted

abbrev pub invariant-loop-object : goal.invariant-loop-object
invariant-loop-object g l =
    l.marks ≡ with_marks (map site_of l.places) l.initial.marks (each_below l.object (λ o. each_below (length (object_at l.objects o).sections) (addresses_named (given_of l.objects g.wanted) o)))
