use Rattle.symbols.specs.Wanted.{given_of}
use Rattle.lift_blocks.proofs.lifting.Link.lift.Given as goal

abbrev pub ghost-places : goal.ghost-places
ghost-places g a = g.names

abbrev pub ghost-lift_places : goal.ghost-lift_places
ghost-lift_places g a = given_of a.self.now.objects.now g.names
