use Rattle.lift_blocks.proofs.first_fault.CodeFaults.ends_no_pair.Given as goal

abbrev pub ghost-op_at : goal.ghost-op_at
ghost-op_at g a = g.given
