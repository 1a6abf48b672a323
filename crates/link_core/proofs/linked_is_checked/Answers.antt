use Rattle.link_core.proofs.Checked as checked
use Rattle.link_core.proofs.linked_is_checked.Goals as goal

pub returns : goal.returns
returns c = checked.linked_is_checked c.blocks_are_implemented.ensures.placeable c.code_is_placed.ensures.placed
