use Rattle.numbers.proofs.BytesLaws.{number_of-little}
use Rattle.numbers.proofs.bytes_come_back.Goals as goal

pub returns : goal.returns
returns c = number_of-little
