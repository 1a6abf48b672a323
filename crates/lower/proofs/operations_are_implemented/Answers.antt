use Rattle.lower.proofs.operations_are_implemented.Goals as goal
use Rattle.lower.proofs.Immediates.{words_are_lowerable}
use Rattle.lower.proofs.Alone.{operations_are_lowered}
use Rattle.lower.proofs.Jumps.{all_are_lowered, calls_are_lowered}
use Rattle.lower.proofs.Blocks.{each_block_is_implemented, blocks_are_placeable}
use Rattle.lower.proofs.Cuts.{runs_are_maximal}
use Rattle.lower.proofs.Endings.{endings_are_placeable}

pub returns-clause-words : goal.returns-clause-words
returns-clause-words c = words_are_lowerable

pub returns-clause-effects : goal.returns-clause-effects
returns-clause-effects c = operations_are_lowered

pub returns-clause-jumps : goal.returns-clause-jumps
returns-clause-jumps c = all_are_lowered

pub returns-clause-calls : goal.returns-clause-calls
returns-clause-calls c = calls_are_lowered

pub returns-clause-runs : goal.returns-clause-runs
returns-clause-runs c = runs_are_maximal

pub returns-clause-endings : goal.returns-clause-endings
returns-clause-endings c = endings_are_placeable

pub returns-clause-implemented : goal.returns-clause-implemented
returns-clause-implemented c = each_block_is_implemented

pub returns-clause-placeable : goal.returns-clause-placeable
returns-clause-placeable c = blocks_are_placeable
