use Rattle.lift_blocks.proofs.first_fault.CodeFaults.is_direct.Given as goal

abbrev pub ghost-op_at : goal.ghost-op_at
ghost-op_at g a = g.given

abbrev pub ghost-leads_on : goal.ghost-leads_on
ghost-leads_on g a = g.given

abbrev pub ghost-relocations : goal.ghost-relocations
ghost-relocations g a = g.given
