use Rattle.faults.proofs.Firsts.{first_below-found}
use Rattle.faults.proofs.first_found.Goals as goal

pub returns : goal.returns
returns c = λ rule n i fault less before here. first_below-found rule n i fault less before here
