use Rattle.std.proofs.Common.{◌≡◌, None}
use Rattle.faults.specs.First.{first_below, where_true}
use Rattle.elf_objects.specs.Rules.{is_bad_symbol}
use Rattle.elf_objects.specs.Faults.{refusal}
use Rattle.elf_objects.proofs.symbol_rules.check_symbols_of.Given as goal
use Rattle.elf_objects.specs.declared.fault.TheConstants.{BAD_SYMBOL}

abbrev pub invariant-loop-at : goal.invariant-loop-at
invariant-loop-at l = first_below l.at (λ i. where_true (is_bad_symbol l.tables.file.bytes.now i) (refusal BAD_SYMBOL l.section i)) ≡ None
