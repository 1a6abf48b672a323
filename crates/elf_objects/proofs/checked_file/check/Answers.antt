use Rattle.elf_objects.proofs.Order.{early-first, early-none}
use Rattle.elf_objects.proofs.checked_file.check.Goals as goal

pub returns-clause-none : goal.returns-clause-none
returns-clause-none c = early-none c.args.bytes.now c.check_early.result c.check_early.ensures.refusal

pub returns-clause-first : goal.returns-clause-first
returns-clause-first c = early-first c.args.bytes.now c.check_early.result c.check_early.ensures.refusal
