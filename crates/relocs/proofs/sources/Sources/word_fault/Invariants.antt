use Rattle.relocs.proofs.sources.Sources.word_fault.Given as goal

abbrev pub ghost-word : goal.ghost-word
ghost-word g a = g.given
