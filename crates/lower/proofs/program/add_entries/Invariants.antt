use Rattle.std.proofs.Common.{◌≡◌, ◌++◌, map, take}
use Rattle.runs.specs.Blocks.{block_of}
use Rattle.lower.proofs.program.add_entries.Given as goal

abbrev pub invariant-loop-at : goal.invariant-loop-at
invariant-loop-at l = l.list ≡ record l.initial.list { entries = l.initial.list.entries ++ map (block_of l.lifted.begins) (take l.at l.lifted.entries) }
