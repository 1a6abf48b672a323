use Rattle.std.proofs.Common.{◌≡◌, ◌++◌, map, take}
use Rattle.runs.specs.Blocks.{block_of}
use Rattle.lower.proofs.program.add_needed.Given as goal

abbrev pub invariant-loop-at : goal.invariant-loop-at
invariant-loop-at l = l.list ≡ record l.initial.list { needed = l.initial.list.needed ++ map (block_of l.lifted.begins) (take l.at l.lifted.needed) }
