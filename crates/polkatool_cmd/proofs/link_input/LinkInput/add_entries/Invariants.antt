use Rattle.std.proofs.Common.{◌≡◌, ◌++◌, length}
use Rattle.polkatool_cmd.specs.Items.{items}
use Rattle.polkatool_cmd.specs.LinkWords.{entries}
use Rattle.polkatool_cmd.proofs.link_input.LinkInput.add_entries.Given as goal

abbrev pub invariant-loop-item : goal.invariant-loop-item
invariant-loop-item l = record {
  added : l.wanted.entries ++ entries (items l.rest) ≡ entries (items l.self.words.now);
  others : l.wanted ≡ record l.initial.wanted { entries = l.wanted.entries };
}

abbrev pub decreases-loop-item : goal.decreases-loop-item
decreases-loop-item l = length l.rest
