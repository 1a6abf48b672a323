use Rattle.std.proofs.Common.{sym, ◌∙◌}
use Rattle.elf_objects.proofs.Records.{length-symbols_of}
use Rattle.elf_objects.proofs.object.Object.symbols.Goals as goal

pub returns : goal.returns
returns c = rw (← c.self.view_is) (c.symbols.ensures ∙ sym (length-symbols_of c.self.inside.file))
