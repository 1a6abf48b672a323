use Rattle.machine_state.proofs.Heap.{sbrk_is_good}
use Rattle.machine_state.proofs.sbrk_is_good.Goals as goal

pub returns : goal.returns
returns c = sbrk_is_good
