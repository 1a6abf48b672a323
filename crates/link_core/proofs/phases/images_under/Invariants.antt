use Rattle.symbols.specs.Wanted.{given_of}
use Rattle.link_core.proofs.phases.images_under.Given as goal

abbrev pub ghost-images : goal.ghost-images
ghost-images g a = given_of a.objects.now g.names
