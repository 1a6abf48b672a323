use Rattle.std.proofs.Common.{◌≡◌, take}
use Rattle.std.specs.List.{filter}
use Rattle.relocs.specs.Sites.{gives_high}
use Rattle.relocs.proofs.rows.highs_of.Given as goal

abbrev pub invariant-loop-relocation : goal.invariant-loop-relocation
invariant-loop-relocation l = l.found.items ≡ filter gives_high (take l.relocation-index l.row)
