use Rattle.faults.proofs.Absent.{none-each}
use Rattle.faults.proofs.none_at_each.Goals as goal

pub returns : goal.returns
returns c = λ n i at none less. none-each n i at none less
