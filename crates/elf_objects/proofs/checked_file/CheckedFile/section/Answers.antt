use Rattle.elf_objects.proofs.Keeping.{section-keeps}
use Rattle.elf_objects.proofs.checked_file.CheckedFile.section.Goals as goal

pub returns-clause-keeps : goal.returns-clause-keeps
returns-clause-keeps c =
    let within = rw (← c.self.view_is) at c.requires in
    section-keeps c.self.inside.tables.file.bytes.now c.args.at _ c.self.invariant.valid within c.section.ensures
