use Rattle.relocs.proofs.sources.Sources.found_at.Given as goal

abbrev pub ghost-found_near : goal.ghost-found_near
ghost-found_near g a = g.given
