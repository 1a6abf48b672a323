use Rattle.std.proofs.Common.{◌≡◌, ◌*◌, None}
use Rattle.faults.specs.First.{first_below, where_true}
use Rattle.elf_objects.specs.Relocations.{relocation_in}
use Rattle.elf_objects.specs.Rules.{is_bad_relocation}
use Rattle.elf_objects.specs.Faults.{refusal}
use Rattle.elf_objects.proofs.relocation_rules.check_entries.Given as goal
use Rattle.elf_objects.specs.declared.fault.TheConstants.{BAD_RELOCATION}

abbrev pub invariant-loop-at : goal.invariant-loop-at
invariant-loop-at l = first_below l.at (λ k. where_true (is_bad_relocation l.tables.file.bytes.now l.target (relocation_in l.entries (24 * k))) (refusal BAD_RELOCATION l.section k)) ≡ None
