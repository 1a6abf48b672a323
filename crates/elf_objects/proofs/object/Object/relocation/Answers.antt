use Rattle.std.proofs.Common.{◌<◌}
use Rattle.elf_objects.specs.Headers.{section_count}
use Rattle.elf_objects.proofs.Records.{length-sections_of, relocations_of-object_in}
use Rattle.elf_objects.proofs.object.Object.relocation.Goals as goal

pub relocation-requires-clause-section : goal.relocation-requires-clause-section
relocation-requires-clause-section c = rw (← length-sections_of c.self.inside.file) (rw (← c.self.view_is) at c.requires.section)

pub relocation-requires-clause-at : goal.relocation-requires-clause-at
relocation-requires-clause-at c =
    let b = c.self.inside.file in
    let within : c.args.section < section_count b = rw (← c.self.view_is, length-sections_of b) at c.requires.section in
    rw (← relocations_of-object_in b c.args.section within) (rw (← c.self.view_is) at c.requires.at)

pub returns-clause-entry : goal.returns-clause-entry
returns-clause-entry c =
    let b = c.self.inside.file in
    let within : c.args.section < section_count b = rw (← c.self.view_is, length-sections_of b) at c.requires.section in
    rw (← c.self.view_is, relocations_of-object_in b c.args.section within) c.relocation.ensures.entry
