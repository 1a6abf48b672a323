use Rattle.std.proofs.Common.{take}
use Rattle.std.specs.List.{list_any}
use Rattle.symbols.specs.Faults.{is_named_in}
use Rattle.symbols.specs.Names.{AddsMarks}
use Rattle.symbols.proofs.named.mark_sections.Given as goal

abbrev pub invariant-loop-section : goal.invariant-loop-section
invariant-loop-section l = AddsMarks l.initial.marks l.marks (λ number. list_any (is_named_in number) (take l.section l.object.sections))
