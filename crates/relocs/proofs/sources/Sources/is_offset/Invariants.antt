use Rattle.relocs.proofs.sources.Sources.is_offset.Given as goal

abbrev pub ghost-code_size : goal.ghost-code_size
ghost-code_size g a = g.given
