use Rattle.std.proofs.Common.{arith}
use Rattle.faults.proofs.Firsts.{found_fault}
use Rattle.elf_objects.specs.Symbols.{symbol_entry_count}
use Rattle.elf_objects.specs.Rules.{is_symbol_unnamed}
use Rattle.elf_objects.specs.Faults.{refusal}
use Rattle.elf_objects.specs.FirstFaults.{symbol_name_refusal}
use Rattle.elf_objects.proofs.name_rules.check_symbol_names.Goals as goal
use Rattle.elf_objects.specs.declared.fault.TheConstants.{BAD_NAME}

pub returns-then-not-has_name : goal.returns-then-not-has_name
unfolding symbol_name_refusal
returns-then-not-has_name c =
    let b = c.args.tables.now.file.bytes.now in
    rw c.from.ensures (found_fault (is_symbol_unnamed b) (λ i. refusal BAD_NAME c.args.section i) (symbol_entry_count b) c.loop-at.at (omega arith) c.loop-at.invariant (cc))
