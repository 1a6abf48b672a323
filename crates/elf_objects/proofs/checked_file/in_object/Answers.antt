use Rattle.std.proofs.Common.{refl}
use Rattle.elf_objects.proofs.Records.{object_of-faulty}
use Rattle.elf_objects.proofs.checked_file.in_object.Goals as goal

pub returns-clause-refuses : goal.returns-clause-refuses
returns-clause-refuses c = λ file first. (object_of-faulty file _ first, rw first refl)
