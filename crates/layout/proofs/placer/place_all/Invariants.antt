use Rattle.layout.proofs.placer.place_all.Given as goal

abbrev pub ghost-slots_of : goal.ghost-slots_of
ghost-slots_of g a = g.wanted

abbrev pub ghost-measure : goal.ghost-measure
ghost-measure g a = g.wanted
