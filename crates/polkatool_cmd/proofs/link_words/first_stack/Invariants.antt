use Rattle.std.proofs.Common.{◌≡◌, length}
use Rattle.std.specs.List.{slice_get}
use Rattle.polkatool_cmd.specs.Items.{items}
use Rattle.polkatool_cmd.specs.LinkWords.{stacks}
use Rattle.polkatool_cmd.proofs.link_words.first_stack.Given as goal

abbrev pub invariant-loop-item : goal.invariant-loop-item
invariant-loop-item l = slice_get (stacks (items l.rest)) 0 ≡ slice_get (stacks (items l.words)) 0

abbrev pub decreases-loop-item : goal.decreases-loop-item
decreases-loop-item l = length l.rest
