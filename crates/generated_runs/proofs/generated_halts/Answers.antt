use Rattle.generated_runs.proofs.Halting.{generated-halts}
use Rattle.generated_runs.proofs.generated_halts.Goals as goal

pub returns : goal.returns
returns c =
    generated-halts c.generated_is_given.ensures c.generated_is_lifted.ensures c.words_are_instructions.ensures c.generated_is_lowered.ensures c.lifted_is_one.ensures c.blocks_are_implemented.ensures.placeable
    c.operations_are_implemented.ensures.jumps c.code_is_placed.ensures.placed c.effects_keep_targets.ensures.plain c.start_is_good.ensures
