use Rattle.std.proofs.Common.{◌≡◌, arith, true}
use Rattle.faults.proofs.Firsts.{found_fault}
use Rattle.elf_objects.specs.Sections.{is_symbol_table}
use Rattle.elf_objects.specs.Symbols.{symbol_entry_count}
use Rattle.elf_objects.specs.Rules.{is_bad_symbol}
use Rattle.elf_objects.specs.Faults.{refusal}
use Rattle.elf_objects.specs.FirstFaults.{symbol_refusal}
use Rattle.elf_objects.proofs.symbol_rules.check_symbols_of.Goals as goal
use Rattle.elf_objects.specs.declared.fault.TheConstants.{BAD_SYMBOL}

pub returns-then-is_bad_symbol : goal.returns-then-is_bad_symbol
unfolding symbol_refusal
returns-then-is_bad_symbol c =
    let b = c.args.tables.now.file.bytes.now in
    let table : is_symbol_table b c.args.section ≡ true = cc in
    rw (c.from.ensures, table) (found_fault (is_bad_symbol b) (λ i. refusal BAD_SYMBOL c.args.section i) (symbol_entry_count b) c.loop-at.at (omega arith) c.loop-at.invariant (cc))
