use Rattle.lift_blocks.proofs.first_fault.CodeFaults.fault_in_code.Given as goal

abbrev pub ghost-content : goal.ghost-content
ghost-content g a = g.given

abbrev pub ghost-fault_in_words : goal.ghost-fault_in_words
ghost-fault_in_words g a = g.given

abbrev pub ghost-fault_in_offsets : goal.ghost-fault_in_offsets
ghost-fault_in_offsets g a = g.given

abbrev pub ghost-first_unaligned : goal.ghost-first_unaligned
ghost-first_unaligned g a = g.given
