use Rattle.faults.proofs.Heads.{first_in-append}
use Rattle.faults.proofs.first_of_phases.Goals as goal

pub returns : goal.returns
returns c = λ earlier later. first_in-append earlier later
