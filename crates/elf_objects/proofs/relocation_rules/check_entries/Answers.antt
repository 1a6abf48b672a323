use Rattle.std.proofs.Common.{◌/◌, ◌*◌, length, arith}
use Rattle.faults.proofs.Firsts.{found_fault}
use Rattle.elf_objects.specs.Relocations.{relocation_in}
use Rattle.elf_objects.specs.Rules.{is_bad_relocation}
use Rattle.elf_objects.specs.Faults.{refusal}
use Rattle.elf_objects.specs.FirstFaults.{entries_refusal}
use Rattle.elf_objects.proofs.relocation_rules.check_entries.Goals as goal
use Rattle.elf_objects.specs.declared.fault.TheConstants.{BAD_RELOCATION}

pub returns-then-is_bad_relocation : goal.returns-then-is_bad_relocation
unfolding entries_refusal
returns-then-is_bad_relocation c =
    let b = c.args.tables.now.file.bytes.now in
    let es = c.args.entries.now in
    found_fault (λ k. is_bad_relocation b c.args.target (relocation_in es (24 * k))) (λ k. refusal BAD_RELOCATION c.args.section k) (length es / 24) c.loop-at.at (omega arith) c.loop-at.invariant (cc)
