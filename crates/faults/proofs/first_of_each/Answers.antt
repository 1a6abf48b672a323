use Rattle.faults.proofs.Heads.{first_in-each}
use Rattle.faults.proofs.first_of_each.Goals as goal

pub returns : goal.returns
returns c = λ n at rule same. first_in-each n at rule same
