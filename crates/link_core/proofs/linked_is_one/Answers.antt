use Rattle.link_core.proofs.OneProgram.{linked_is_one}
use Rattle.link_core.proofs.linked_is_one.Goals as goal

pub returns : goal.returns
returns c = linked_is_one c.lifted_is_one.ensures c.code_is_placed.ensures.one
