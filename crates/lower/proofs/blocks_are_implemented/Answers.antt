use Rattle.lower.proofs.blocks_are_implemented.Goals as goal
use Rattle.lower.proofs.Same.{same_instrs, same_places}
use Rattle.lower.proofs.Plain.{lowered_is_placeable}
use Rattle.lower.proofs.Begin.{blocks_are_all, entries_begin, blocks_are_there}
use Rattle.lower.proofs.JumpsToSegments.{lowered_is_cut}

pub returns-clause-cut : goal.returns-clause-cut
returns-clause-cut c = lowered_is_cut c.calls_begin_blocks.ensures

pub returns-clause-all : goal.returns-clause-all
returns-clause-all c = blocks_are_all

pub returns-clause-entries : goal.returns-clause-entries
returns-clause-entries c = entries_begin

pub returns-clause-blocks_there : goal.returns-clause-blocks_there
returns-clause-blocks_there c = blocks_are_there

pub returns-clause-instrs : goal.returns-clause-instrs
returns-clause-instrs c = same_instrs

pub returns-clause-places : goal.returns-clause-places
returns-clause-places c = same_places

pub returns-clause-placeable : goal.returns-clause-placeable
returns-clause-placeable c = lowered_is_placeable
