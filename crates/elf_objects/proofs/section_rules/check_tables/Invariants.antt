use Rattle.std.proofs.Common.{◌≡◌, None}
use Rattle.faults.specs.First.{first_below, where_true}
use Rattle.elf_objects.specs.Rules.{is_bad_section}
use Rattle.elf_objects.specs.Faults.{refusal}
use Rattle.elf_objects.proofs.section_rules.check_tables.Given as goal
use Rattle.elf_objects.specs.declared.fault.TheConstants.{BAD_TABLE}

abbrev pub invariant-loop-section : goal.invariant-loop-section
invariant-loop-section l = first_below l.section (λ i. where_true (is_bad_section l.tables.file.bytes.now i) (refusal BAD_TABLE i 0)) ≡ None
