use Rattle.std.proofs.Common.{◌≡◌, length}
use Rattle.polkatool_cmd.specs.Items.{items}
use Rattle.polkatool_cmd.specs.LinkWords.{imports, repeats_import}
use Rattle.polkatool_cmd.proofs.link_words.repeats_import.Given as goal

abbrev pub invariant-loop-item : goal.invariant-loop-item
invariant-loop-item l = repeats_import (imports (items l.rest)) ≡ repeats_import (imports (items l.words))

abbrev pub decreases-loop-item : goal.decreases-loop-item
decreases-loop-item l = length l.rest
