use Rattle.std.proofs.Common.{◌≡◌, map, take, slice_index}
use Rattle.jump_table.proofs.assembled.table.Given as goal

abbrev pub invariant-loop-block : goal.invariant-loop-block
invariant-loop-block l = l.table.items ≡ map (λ b. slice_index l.starts b) (take l.block-index l.blocks)
