use Rattle.std.proofs.Common.{◌≡◌, take}
use Rattle.std.specs.List.{filter, filter_map}
use Rattle.relocs.specs.Near.{items_of}
use Rattle.relocs.specs.Operands.{plain_fault, least}
use Rattle.relocs.specs.Pairs.{relocation_is_at}
use Rattle.relocs.proofs.sources.Sources.least_plain_fault.Given as goal

abbrev pub ghost-near : goal.ghost-near
ghost-near g a = g.given

abbrev pub ghost-plain_fault_at : goal.ghost-plain_fault_at
ghost-plain_fault_at g a = g.given

abbrev pub invariant-loop-at : goal.invariant-loop-at
invariant-loop-at g l =
    l.least ≡ least (filter_map (plain_fault g.given l.object l.section) (filter (relocation_is_at l.offset) (take l.at (items_of l.relocations))))
