use Rattle.link_core.proofs.Agreement as agreement
use Rattle.link_core.proofs.linked_agrees.Goals as goal

pub returns : goal.returns
returns c =
    let lowering = c.blocks_are_implemented.ensures in
    let placing = c.code_is_placed.ensures in
    let effects = c.effects_keep_targets.ensures in
    agreement.linked_agrees c.source_lockstep.ensures c.bounds_stay.ensures lowering.cut lowering.all lowering.entries lowering.blocks_there lowering.instrs lowering.places lowering.placeable
    placing.placed effects.renamed effects.plain effects.named effects.of_target effects.targeted c.start_is_good.ensures c.calls_answer_well.ensures
