use Rattle.std.proofs.Common.{◌≡◌, ◌≤◌, length}
use Rattle.blob_check.specs.Faults.{last_mark}
use Rattle.blob_check.proofs.checking.last_mark.Given as goal

abbrev pub invariant-loop-after : goal.invariant-loop-after
invariant-loop-after l = (l.after ≤ length l.code.bytes) × (last_mark l.code (length l.code.bytes) ≡ last_mark l.code l.after)

abbrev pub decreases-loop-after : goal.decreases-loop-after
decreases-loop-after l = l.after
