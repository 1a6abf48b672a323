use Rattle.lift_blocks.proofs.lifting.Link.lift_places.Given as goal

abbrev pub ghost-code_map : goal.ghost-code_map
ghost-code_map g a = g.given

abbrev pub ghost-operations : goal.ghost-operations
ghost-operations g a = g.given

abbrev pub ghost-entry_sites : goal.ghost-entry_sites
ghost-entry_sites g a = g.given

abbrev pub ghost-list : goal.ghost-list
ghost-list g a = g.given
