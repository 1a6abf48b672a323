use Rattle.relocs.proofs.sources.Sources.relocations_fault.Given as goal

abbrev pub ghost-is_crowded : goal.ghost-is_crowded
ghost-is_crowded g a = g.given

abbrev pub ghost-least_fault : goal.ghost-least_fault
ghost-least_fault g a = g.given
