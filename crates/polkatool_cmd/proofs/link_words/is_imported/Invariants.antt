use Rattle.std.proofs.Common.{◌≡◌, length}
use Rattle.polkatool_cmd.specs.Items.{items}
use Rattle.polkatool_cmd.specs.LinkWords.{imports, is_imported}
use Rattle.polkatool_cmd.proofs.link_words.is_imported.Given as goal

abbrev pub invariant-loop-item : goal.invariant-loop-item
invariant-loop-item l = is_imported l.name (imports (items l.rest)) ≡ is_imported l.name (imports (items l.words))

abbrev pub decreases-loop-item : goal.decreases-loop-item
decreases-loop-item l = length l.rest
