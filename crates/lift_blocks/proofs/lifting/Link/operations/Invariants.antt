use Rattle.lift_blocks.proofs.lifting.Link.operations.Given as goal

abbrev pub ghost-new : goal.ghost-new
ghost-new g a = g.given

abbrev pub ghost-first_code_fault : goal.ghost-first_code_fault
ghost-first_code_fault g a = g.given

abbrev pub ghost-operations : goal.ghost-operations
ghost-operations g a = g.given
