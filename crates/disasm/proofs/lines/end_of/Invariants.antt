use Rattle.std.proofs.Common.{◌≡◌, ◌+◌, ◌-◌, ◌<◌, ◌≤◌, ℕ, length, false}
use Rattle.pvm_ops.specs.Listing.{is_marked}
use Rattle.disasm.proofs.lines.end_of.Given as goal

abbrev pub invariant-loop-end : goal.invariant-loop-end
invariant-loop-end l = record {
  range : (l.at < l.end) × (l.end ≤ length l.code.bytes);
  none : (p : ℕ) → l.at + 1 ≤ p → p < l.end → is_marked l.code p ≡ false;
}

abbrev pub decreases-loop-end : goal.decreases-loop-end
decreases-loop-end l = length l.code.bytes - l.end
