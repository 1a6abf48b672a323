use Rattle.relocs.proofs.sources.Sources.is_crowded.Given as goal

abbrev pub ghost-found_at : goal.ghost-found_at
ghost-found_at g a = g.given
