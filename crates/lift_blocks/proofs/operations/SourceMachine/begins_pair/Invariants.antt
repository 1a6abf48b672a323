use Rattle.lift_blocks.proofs.operations.SourceMachine.begins_pair.Given as goal

abbrev pub ghost-is_pair_at : goal.ghost-is_pair_at
ghost-is_pair_at g a = g.given
