use Rattle.polkatool_tests.proofs.phases.Phases.see_sources.Given as goal

abbrev pub ghost-new : goal.ghost-new
ghost-new g a = g.given

abbrev pub ghost-op_at : goal.ghost-op_at
ghost-op_at g a = g.given

abbrev pub ghost-word_fault : goal.ghost-word_fault
ghost-word_fault g a = g.given

abbrev pub ghost-is_pair_at : goal.ghost-is_pair_at
ghost-is_pair_at g a = g.given

abbrev pub ghost-is_second : goal.ghost-is_second
ghost-is_second g a = g.given

abbrev pub ghost-relocations : goal.ghost-relocations
ghost-relocations g a = g.given

abbrev pub ghost-refusal_code : goal.ghost-refusal_code
ghost-refusal_code g a = g.given
