use Rattle.std.proofs.Common.{◌≡◌, take}
use Rattle.std.specs.List.{filter}
use Rattle.relocs.specs.ByOffset.{calls}
use Rattle.relocs.proofs.rows.calls_of.Given as goal

abbrev pub invariant-loop-relocation : goal.invariant-loop-relocation
invariant-loop-relocation l = l.found.items ≡ filter calls (take l.relocation-index l.row)
