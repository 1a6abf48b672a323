use Rattle.link_core.specs.Faults.{input_of, listed_faults, HasNoFault, HasFirstFault}
use Rattle.link_core.proofs.OneFault.{one_first, not_both}
use Rattle.link_core.proofs.linker.first_fault_is_one.Goals as goal

pub returns : goal.returns
unfolding HasNoFault HasFirstFault
returns c = record {
  one = λ files wanted. one_first (listed_faults files wanted) (input_of files wanted);
  none = λ files wanted. not_both (listed_faults files wanted) (input_of files wanted);
}
