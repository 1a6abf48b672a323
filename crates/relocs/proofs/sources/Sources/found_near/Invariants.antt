use Rattle.std.proofs.Common.{◌≡◌, take}
use Rattle.std.specs.Prelude.{IfSome}
use Rattle.std.specs.List.{filter}
use Rattle.relocs.specs.Near.{items_of}
use Rattle.relocs.specs.Pairs.{relocation_is_at}
use Rattle.relocs.specs.Sites.{IsNamed, found_of}
use Rattle.relocs.proofs.sources.Sources.found_near.Given as goal

abbrev pub ghost-near : goal.ghost-near
ghost-near g a = g.given

abbrev pub invariant-loop-at : goal.invariant-loop-at
invariant-loop-at g l = record {
  found_is : l.found ≡ found_of (filter (relocation_is_at l.offset) (take l.at (items_of l.relocations)));
  named : IfSome l.found.high (IsNamed g.given l.object);
}
