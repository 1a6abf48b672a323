use Rattle.std.proofs.Common.{◌≡◌, take}
use Rattle.link_core.specs.MapText.{entry_lines}
use Rattle.link_core.proofs.map_text.entry_lines.Given as goal

abbrev pub invariant-loop-at : goal.invariant-loop-at
invariant-loop-at l = l.text.items ≡ entry_lines 0 (take l.at l.wanted.entries) (take l.at l.positions)
