use Rattle.elf_objects.proofs.Keeping.{symbol-keeps}
use Rattle.elf_objects.proofs.checked_file.CheckedFile.symbol.Goals as goal

pub returns-clause-keeps : goal.returns-clause-keeps
returns-clause-keeps c =
    let within = rw (← c.self.view_is) at c.requires in
    λ pos. rw (← c.self.view_is) (symbol-keeps c.self.inside.tables.file.bytes.now c.args.at _ c.self.invariant.valid pos within c.symbol.ensures)
