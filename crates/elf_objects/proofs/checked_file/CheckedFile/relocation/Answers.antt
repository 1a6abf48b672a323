use Rattle.elf_objects.proofs.Keeping.{relocation-keeps}
use Rattle.elf_objects.proofs.checked_file.CheckedFile.relocation.Goals as goal

pub returns-clause-keeps : goal.returns-clause-keeps
returns-clause-keeps c =
    let leads = rw (← c.self.view_is) at c.part-part.ensures in
    let b = c.self.inside.tables.file.bytes.now in
    rw (c.read_relocation.ensures, c.content-entries.ensures.bytes, c.header-header.ensures, ← c.self.view_is) (relocation-keeps b c.args.section c.args.at c.part-part.result c.self.invariant.valid leads)
