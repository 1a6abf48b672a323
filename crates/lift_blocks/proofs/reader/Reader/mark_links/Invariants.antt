use Rattle.std.proofs.Common.{◌≡◌, map, take}
use Rattle.std.specs.List.{filter_map}
use Rattle.relocs.specs.AddressMap.{link_at}
use Rattle.lift_blocks.specs.Kept.{site_of}
use Rattle.lift_blocks.specs.Marks.{with_marks}
use Rattle.lift_blocks.proofs.reader.Reader.mark_links.Given as goal

abbrev pub ghost-link : goal.ghost-link
ghost-link g a = g.given

abbrev pub invariant-loop-at : goal.invariant-loop-at
invariant-loop-at g l = l.marks ≡ with_marks (map site_of l.places) l.initial.marks (filter_map (link_at g.given) (take l.at (map site_of l.places)))
