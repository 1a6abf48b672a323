use Rattle.std.proofs.Common.{◌≡◌, None}
use Rattle.faults.specs.First.{first_below, where_true}
use Rattle.elf_objects.specs.Rules.{is_symbol_unnamed}
use Rattle.elf_objects.specs.Faults.{refusal}
use Rattle.elf_objects.proofs.name_rules.check_symbol_names.Given as goal
use Rattle.elf_objects.specs.declared.fault.TheConstants.{BAD_NAME}

abbrev pub invariant-loop-at : goal.invariant-loop-at
invariant-loop-at l = first_below l.at (λ i. where_true (is_symbol_unnamed l.tables.file.bytes.now i) (refusal BAD_NAME l.section i)) ≡ None
