use Rattle.std.proofs.Common.{ℕ, ◌<◌, ◌^◌, length}
use Rattle.symbols.specs.Parts.{object_at}
use Rattle.lift_blocks.proofs.surveying.counts_are_small.Given as goal

abbrev pub invariant-loop-object : goal.invariant-loop-object
invariant-loop-object g l = (o : ℕ) → o < l.object → length (object_at l.objects o).sections < 2 ^ 32
