use Rattle.std.proofs.Common.{◌<◌, ◌∙◌, length, sym, ap, arith}
use Rattle.pvm_ops.specs.declared.blocks.BasicBlock.{BasicBlock}
use Rattle.pvm_ops.specs.BlockList.{Block, BlockList, block_at}
use Rattle.pvm_ops.proofs.Cutting.{block_is, length_blocks}
use Rattle.pvm_ops.proofs.blocks.Blocks.target.Goals as goal

pub index-requires : goal.index-requires
index-requires c =
    let blocks = c.self.inside.blocks in
    omega (arith, blocks.ok.0, length_blocks 0 c.self.inside.instrs.items blocks.items, ap (λ (l : BlockList). length l.blocks) c.self.view_is, c.requires)

pub returns : goal.returns
returns c =
    let instrs = c.self.inside.instrs.items in
    let blocks = c.self.inside.blocks.items in
    let at = c.args.at in
    let within : at < length blocks = omega (arith, length_blocks 0 instrs blocks, ap (λ (l : BlockList). length l.blocks) c.self.view_is, c.requires) in
    ap (λ (b : BasicBlock). b.target) c.index.ensures ∙ sym (ap (λ (b : Block). b.target) (block_is 0 instrs blocks at c.index.result.now within))
    ∙ ap (λ (l : BlockList). (block_at l at).target) c.self.view_is
