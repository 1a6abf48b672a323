use Rattle.std.proofs.Common.{◌≡◌, ◌++◌}
use Rattle.std.specs.Prelude.{slice_get}
use Rattle.faults.specs.Present.{each_below}
use Rattle.link_core.specs.DataParts.{holds}
use Rattle.link_core.specs.MapText.{section_line}
use Rattle.link_core.proofs.map_text.push_object_lines.Given as goal
use Rattle.symbols.specs.Parts.{sections_of}

abbrev pub invariant-loop-section : goal.invariant-loop-section
invariant-loop-section l =
    l.text.items ≡ l.initial.text.items ++ each_below l.section (λ s. section_line (holds l.part) l.input l.object s (slice_get (sections_of (slice_get l.input.objects l.object)) s))
