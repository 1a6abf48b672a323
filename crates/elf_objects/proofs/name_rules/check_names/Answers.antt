use Rattle.std.proofs.Common.{arith}
use Rattle.std.proofs.lemmas.Result.{err_from_is_err_and}
use Rattle.faults.proofs.Firsts.{found_first}
use Rattle.elf_objects.specs.Headers.{section_count}
use Rattle.elf_objects.specs.FirstFaults.{name_refusal}
use Rattle.elf_objects.proofs.name_rules.check_names.Goals as goal

pub returns-in_err-check_name : goal.returns-in_err-check_name
returns-in_err-check_name c =
    let p = err_from_is_err_and c.from_residual.result c.from_residual.ensures.1 in
    let b = c.args.tables.now.file.bytes.now in
    rw (p.1, p.2) (found_first (name_refusal b) (section_count b) c.loop-section.section _ (omega arith) c.loop-section.invariant c.in_err-check_name.ensures)
