use Rattle.std.proofs.Common.{arith}
use Rattle.faults.proofs.Firsts.{found_fault}
use Rattle.elf_objects.specs.Headers.{section_count}
use Rattle.elf_objects.specs.Rules.{is_unsupported}
use Rattle.elf_objects.specs.Faults.{refusal}
use Rattle.elf_objects.proofs.section_rules.check_supported.Goals as goal
use Rattle.elf_objects.specs.declared.fault.TheConstants.{UNSUPPORTED_SECTION}

pub returns-then-is_unsupported : goal.returns-then-is_unsupported
returns-then-is_unsupported c =
    found_fault (is_unsupported c.args.tables.now.file.bytes.now) (λ i. refusal UNSUPPORTED_SECTION i 0) (section_count c.args.tables.now.file.bytes.now) c.loop-section.section (omega arith) c.loop-section.invariant (cc)
