use Rattle.std.proofs.Common.{◌≡◌, take}
use Rattle.std.specs.List.{filter_map}
use Rattle.relocs.specs.Pairs.{all_places}
use Rattle.lift_blocks.specs.Listed.{successor_of}
use Rattle.lift_blocks.specs.Marks.{with_marks}
use Rattle.lift_blocks.proofs.listing.mark_successor.Given as goal

abbrev pub ghost-mark_next : goal.ghost-mark_next
ghost-mark_next g a = g.given

abbrev pub invariant-loop-at : goal.invariant-loop-at
invariant-loop-at g l = l.marks ≡ with_marks (all_places g.given) l.initial.marks (filter_map (successor_of g.given) (take l.at (all_places g.given)))
