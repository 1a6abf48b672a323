use Rattle.link_core.proofs.phases.images_with.Given as goal

abbrev pub ghost-images_under : goal.ghost-images_under
ghost-images_under a = a._wanted.now
