use Rattle.relocs.specs.Pairs.{all_places}
use Rattle.lift_blocks.proofs.listing.list.Given as goal

abbrev pub ghost-targeted_marks : goal.ghost-targeted_marks
ghost-targeted_marks g a = g.given

abbrev pub ghost-emitted_marks : goal.ghost-emitted_marks
ghost-emitted_marks g a = g.given

abbrev pub ghost-lifted : goal.ghost-lifted
ghost-lifted g a = g.given

abbrev pub ghost-listed_operations : goal.ghost-listed_operations
ghost-listed_operations g a = all_places g.given
