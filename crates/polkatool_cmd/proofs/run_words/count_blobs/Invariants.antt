use Rattle.std.proofs.Common.{◌≡◌, ◌+◌, length}
use Rattle.polkatool_cmd.specs.Items.{items}
use Rattle.polkatool_cmd.specs.RunWords.{blobs}
use Rattle.polkatool_cmd.proofs.run_words.count_blobs.Given as goal

abbrev pub invariant-loop-item : goal.invariant-loop-item
invariant-loop-item l = l.count + length (blobs (items l.rest)) ≡ length (blobs (items l.words))

abbrev pub decreases-loop-item : goal.decreases-loop-item
decreases-loop-item l = length l.rest
