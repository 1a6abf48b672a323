use Rattle.std.proofs.Common.{sym, ◌∙◌}
use Rattle.elf_objects.proofs.Records.{length-sections_of}
use Rattle.elf_objects.proofs.object.Object.sections.Goals as goal

pub returns : goal.returns
returns c = rw (← c.self.view_is) (c.sections.ensures ∙ sym (length-sections_of c.self.inside.file))
