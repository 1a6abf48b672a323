use Rattle.std.proofs.Common.{◌≡◌, replicate}
use Rattle.std.specs.Prelude.{None}
use Rattle.page_memory.proofs.tables.empty_root.Given as goal

abbrev pub invariant-loop : goal.invariant-loop
invariant-loop l = l.leaves.items ≡ replicate l.counter None
