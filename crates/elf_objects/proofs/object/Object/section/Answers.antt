use Rattle.std.proofs.Common.{◌<◌}
use Rattle.elf_objects.specs.Headers.{section_count}
use Rattle.elf_objects.proofs.Records.{length-sections_of, slice_get-sections_of}
use Rattle.elf_objects.proofs.object.Object.section.Goals as goal

pub section-requires : goal.section-requires
section-requires c = rw (← length-sections_of c.self.inside.file) (rw (← c.self.view_is) at c.requires)

pub returns-clause-shows : goal.returns-clause-shows
returns-clause-shows c =
    let b = c.self.inside.file in
    let within : c.args.at < section_count b = rw (← c.self.view_is, length-sections_of b) at c.requires in
    rw (← c.self.view_is, slice_get-sections_of b c.args.at within) c.section.ensures.shows
