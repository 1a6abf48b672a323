use Rattle.lift_blocks.proofs.first_fault.CodeFaults.leads_on.Given as goal

abbrev pub ghost-ends_no_pair : goal.ghost-ends_no_pair
ghost-ends_no_pair g a = g.given
