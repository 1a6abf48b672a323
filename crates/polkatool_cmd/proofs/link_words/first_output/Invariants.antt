use Rattle.std.proofs.Common.{◌≡◌, length}
use Rattle.std.specs.List.{slice_get}
use Rattle.polkatool_cmd.specs.Items.{items}
use Rattle.polkatool_cmd.specs.LinkWords.{outputs}
use Rattle.polkatool_cmd.proofs.link_words.first_output.Given as goal

abbrev pub invariant-loop-item : goal.invariant-loop-item
invariant-loop-item l = slice_get (outputs (items l.rest)) 0 ≡ slice_get (outputs (items l.words)) 0

abbrev pub decreases-loop-item : goal.decreases-loop-item
decreases-loop-item l = length l.rest
