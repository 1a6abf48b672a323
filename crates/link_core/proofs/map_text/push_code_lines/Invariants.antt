use Rattle.std.proofs.Common.{◌≡◌, ◌++◌, take}
use Rattle.link_core.specs.MapText.{code_lines}
use Rattle.link_core.proofs.map_text.push_code_lines.Given as goal

abbrev pub invariant-loop-at : goal.invariant-loop-at
invariant-loop-at l = l.text.items ≡ l.initial.text.items ++ code_lines l.input 0 (take l.at l.map) (take l.at l.table)
