use Rattle.symbols.specs.Wanted.{given_of}
use Rattle.lift_blocks.proofs.surveying.list_places.Given as goal

abbrev pub ghost-add_code : goal.ghost-add_code
ghost-add_code g a = given_of a.self.now.objects.now g.wanted

abbrev pub ghost-named_of : goal.ghost-named_of
ghost-named_of g a = g.wanted

abbrev pub ghost-add_stubs : goal.ghost-add_stubs
ghost-add_stubs g a = g.wanted
