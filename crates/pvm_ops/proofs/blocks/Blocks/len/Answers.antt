use Rattle.std.proofs.Common.{length, ap, arith}
use Rattle.pvm_ops.specs.BlockList.{BlockList}
use Rattle.pvm_ops.proofs.Cutting.{length_blocks}
use Rattle.pvm_ops.proofs.blocks.Blocks.len.Goals as goal

pub returns-clause-value : goal.returns-clause-value
returns-clause-value c =
    let blocks = c.self.inside.blocks in
    omega (arith, c.len.ensures, blocks.ok.0, length_blocks 0 c.self.inside.instrs.items blocks.items, ap (λ (l : BlockList). length l.blocks) c.self.view_is)
