use Rattle.std.proofs.Common.{◌≡◌, None}
use Rattle.faults.specs.First.{first_below, where_true}
use Rattle.elf_objects.specs.Rules.{is_unsupported}
use Rattle.elf_objects.specs.Faults.{refusal}
use Rattle.elf_objects.proofs.section_rules.check_supported.Given as goal
use Rattle.elf_objects.specs.declared.fault.TheConstants.{UNSUPPORTED_SECTION}

abbrev pub invariant-loop-section : goal.invariant-loop-section
invariant-loop-section l = first_below l.section (λ i. where_true (is_unsupported l.tables.file.bytes.now i) (refusal UNSUPPORTED_SECTION i 0)) ≡ None
