use Rattle.link_core.proofs.phases.place_with.Given as goal

abbrev pub ghost-place_under : goal.ghost-place_under
ghost-place_under a = a.wanted.now
