use Rattle.std.proofs.Common.{◌<◌}
use Rattle.elf_objects.specs.Headers.{section_count}
use Rattle.elf_objects.proofs.Records.{length-sections_of, relocations_of-object_in}
use Rattle.elf_objects.proofs.object.Object.relocations.Goals as goal

pub relocations-requires : goal.relocations-requires
relocations-requires c = rw (← length-sections_of c.self.inside.file) (rw (← c.self.view_is) at c.requires)

pub returns : goal.returns
returns c =
    let b = c.self.inside.file in
    let within : c.args.section < section_count b = rw (← c.self.view_is, length-sections_of b) at c.requires in
    rw (← c.self.view_is, relocations_of-object_in b c.args.section within) c.relocations.ensures
