use Rattle.elf_objects.proofs.Records.{object_of-valid}
use Rattle.elf_objects.proofs.object.Object.read.Goals as goal

pub returns : goal.returns
returns c =
    let valid = c.in_ok-read.ensures in
    object_of-valid c.args.bytes.now c.in_ok-read.field-0 valid.0 valid.1
