use Rattle.lift_blocks.specs.Kept.{operation_of}
use Rattle.lower.proofs.Building.{still_some, some_block, block_is_added}
use Rattle.lower.proofs.block.lower_block.Goals as goal

pub end_block-requires-clause-some : goal.end_block-requires-clause-some
end_block-requires-clause-some c = still_some _ _ _ c.in_ok-add_operations.ensures (some_block _ _ _ c.in_ok-begin.ensures.ok)

pub returns : goal.returns
returns c =
    block_is_added c.args.lifted.now.needed c.args.lifted.now.begins c.args.lifted.now.ops c.args.from c.args.to (operation_of c.operation-last.result) c.args.blocks.now c.begin.new.self c.add_operations.new.blocks c.end_block.new.blocks
    c.requires.some c.requires.within c.operation-last.ensures.value c.in_ok-begin.ensures.ok c.in_ok-add_operations.ensures c.in_ok-end_block.ensures
