use Rattle.relocs.proofs.sources.Sources.op_at.Given as goal

abbrev pub ghost-word : goal.ghost-word
ghost-word g a = g.given
