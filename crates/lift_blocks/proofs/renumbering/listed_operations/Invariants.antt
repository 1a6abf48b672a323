use Rattle.lift_blocks.proofs.renumbering.listed_operations.Given as goal

abbrev pub ghost-operations : goal.ghost-operations
ghost-operations g a = g.places
