use Rattle.std.proofs.Common.{arith}
use Rattle.faults.proofs.Firsts.{found_fault}
use Rattle.elf_objects.specs.Headers.{section_count}
use Rattle.elf_objects.specs.Rules.{is_bad_section}
use Rattle.elf_objects.specs.Faults.{refusal}
use Rattle.elf_objects.proofs.section_rules.check_tables.Goals as goal
use Rattle.elf_objects.specs.declared.fault.TheConstants.{BAD_TABLE}

pub returns-then-is_bad_section : goal.returns-then-is_bad_section
returns-then-is_bad_section c =
    found_fault (is_bad_section c.args.tables.now.file.bytes.now) (λ i. refusal BAD_TABLE i 0) (section_count c.args.tables.now.file.bytes.now) c.loop-section.section (omega arith) c.loop-section.invariant (cc)
