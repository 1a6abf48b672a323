use Rattle.std.proofs.Common.{◌≡◌, ◌+◌, length}
use Rattle.polkatool_cmd.specs.Items.{items}
use Rattle.polkatool_cmd.specs.LinkWords.{entries, imports, stacks, objects}
use Rattle.polkatool_cmd.proofs.link_words.object_counts.Given as goal

abbrev pub invariant-loop-item : goal.invariant-loop-item
invariant-loop-item l = record {
  entries : l.counts.entries + length (entries (items l.rest)) ≡ length (entries (items l.words));
  imports : l.counts.imports + length (imports (items l.rest)) ≡ length (imports (items l.words));
  stacks : l.counts.stacks + length (stacks (items l.rest)) ≡ length (stacks (items l.words));
  objects : l.counts.objects + length (objects (items l.rest)) ≡ length (objects (items l.words));
}

abbrev pub decreases-loop-item : goal.decreases-loop-item
decreases-loop-item l = length l.rest
