use Rattle.lift_blocks.proofs.renumbering.Renumbering.operation.Given as goal

abbrev pub ghost-number : goal.ghost-number
ghost-number g a = g.places
