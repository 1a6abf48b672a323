use Rattle.std.proofs.Common.{◌≡◌, map, take}
use Rattle.std.specs.Prelude.{slice_index}
use Rattle.link_core.proofs.program.entry_positions.Given as goal

abbrev pub invariant-loop-at : goal.invariant-loop-at
invariant-loop-at l = l.positions.items ≡ map (λ block. slice_index l.program.starts block) (take l.at l.blocks.entries)
