use Rattle.std.proofs.Common.{◌≡◌, map, take}
use Rattle.relocs.specs.Pairs.{all_places}
use Rattle.lift_blocks.specs.Listed.{is_emitted}
use Rattle.lift_blocks.proofs.listing.kept_marks.Given as goal

abbrev pub ghost-is_kept : goal.ghost-is_kept
ghost-is_kept g a = g.given

abbrev pub invariant-loop-at : goal.invariant-loop-at
invariant-loop-at g l = l.emitted.items ≡ map (is_emitted g.given) (take l.at (all_places g.given))
