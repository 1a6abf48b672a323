use Rattle.elf_objects.proofs.NameEnds.{name_at-ends}
use Rattle.elf_objects.proofs.name_index.NameIndex.name.Goals as goal

pub returns : goal.returns
returns c = rw c.end_before-end.ensures.end (name_at-ends c.args.self.now.bytes.now c.args.at)
