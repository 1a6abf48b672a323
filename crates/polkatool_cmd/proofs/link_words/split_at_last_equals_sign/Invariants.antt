use Rattle.std.proofs.Common.{◌≡◌, ◌≤◌, ◌<◌, ℕ, false, length, get_or}
use Rattle.polkatool_cmd.specs.LinkWords.{is_equals_sign}
use Rattle.polkatool_cmd.proofs.link_words.split_at_last_equals_sign.Given as goal

abbrev pub invariant-loop-end : goal.invariant-loop-end
invariant-loop-end l = record {
  within : l.end ≤ length l.value;
  other : (k : ℕ) → l.end ≤ k → k < length l.value → is_equals_sign (get_or l.value k 0) ≡ false;
}

abbrev pub decreases-loop-end : goal.decreases-loop-end
decreases-loop-end l = l.end
