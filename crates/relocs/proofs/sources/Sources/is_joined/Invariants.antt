use Rattle.relocs.proofs.sources.Sources.is_joined.Given as goal

abbrev pub ghost-code_size : goal.ghost-code_size
ghost-code_size g a = g.given

abbrev pub ghost-op_at : goal.ghost-op_at
ghost-op_at g a = g.given

abbrev pub ghost-found_at : goal.ghost-found_at
ghost-found_at g a = g.given
