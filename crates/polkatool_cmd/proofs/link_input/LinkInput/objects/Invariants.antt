use Rattle.std.proofs.Common.{◌≡◌, ◌++◌, length, map}
use Rattle.polkatool_cmd.specs.Items.{items}
use Rattle.polkatool_cmd.specs.LinkWords.{objects}
use Rattle.polkatool_cmd.proofs.link_input.LinkInput.objects.Given as goal

abbrev pub invariant-loop-item : goal.invariant-loop-item
invariant-loop-item l = map (λ name. name.now) l.objects.items ++ objects (items l.rest) ≡ objects (items l.self.words.now)

abbrev pub decreases-loop-item : goal.decreases-loop-item
decreases-loop-item l = length l.rest
