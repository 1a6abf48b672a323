use Rattle.symbols.specs.Wanted.{given_of}
use Rattle.lift_blocks.proofs.needed.mark_named.Given as goal

abbrev pub ghost-mark_links : goal.ghost-mark_links
ghost-mark_links g a = given_of a.self.now.objects.now g.wanted

abbrev pub ghost-mark_addresses : goal.ghost-mark_addresses
ghost-mark_addresses g a = g.wanted
