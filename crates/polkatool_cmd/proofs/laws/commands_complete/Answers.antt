use Rattle.polkatool_cmd.proofs.CompletingAll.{all_complete}
use Rattle.polkatool_cmd.proofs.laws.commands_complete.Goals as goal

pub returns : goal.returns
returns c = all_complete c.first_fault_is_one.ensures c.linked_is_one.ensures
