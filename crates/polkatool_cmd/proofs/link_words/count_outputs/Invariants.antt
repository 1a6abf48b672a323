use Rattle.std.proofs.Common.{◌≡◌, ◌+◌, length}
use Rattle.polkatool_cmd.specs.Items.{items}
use Rattle.polkatool_cmd.specs.LinkWords.{outputs}
use Rattle.polkatool_cmd.proofs.link_words.count_outputs.Given as goal

abbrev pub invariant-loop-item : goal.invariant-loop-item
invariant-loop-item l = l.count + length (outputs (items l.rest)) ≡ length (outputs (items l.words))

abbrev pub decreases-loop-item : goal.decreases-loop-item
decreases-loop-item l = length l.rest
