use Rattle.std.proofs.Common.{◌≡◌, ◌++◌}
use Rattle.faults.specs.Present.{each_below}
use Rattle.link_core.specs.DataParts.{holds}
use Rattle.link_core.specs.MapText.{object_lines}
use Rattle.link_core.proofs.map_text.push_lines.Given as goal

abbrev pub invariant-loop-object : goal.invariant-loop-object
invariant-loop-object l = l.text.items ≡ l.initial.text.items ++ each_below l.object (object_lines (holds l.part) l.input)
