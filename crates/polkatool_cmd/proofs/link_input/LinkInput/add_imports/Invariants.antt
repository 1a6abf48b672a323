use Rattle.std.proofs.Common.{◌≡◌, ◌++◌, length}
use Rattle.polkatool_cmd.specs.Items.{items}
use Rattle.polkatool_cmd.specs.LinkWords.{imports}
use Rattle.polkatool_cmd.proofs.link_input.LinkInput.add_imports.Given as goal

abbrev pub invariant-loop-item : goal.invariant-loop-item
invariant-loop-item l = record {
  added : l.wanted.imports ++ imports (items l.rest) ≡ imports (items l.self.words.now);
  others : l.wanted ≡ record l.initial.wanted { imports = l.wanted.imports };
}

abbrev pub decreases-loop-item : goal.decreases-loop-item
decreases-loop-item l = length l.rest
