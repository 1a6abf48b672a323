use Rattle.std.proofs.Common.{◌≡◌, ◌<◌, ◌∙◌, length, get_or, sym, ap, arith}
use Rattle.std.specs.Prelude.{slice_range}
use Rattle.pvm_ops.specs.declared.blocks.BasicBlock.{BasicBlock}
use Rattle.pvm_ops.specs.BlockList.{Block, BlockList, block_at}
use Rattle.pvm_ops.specs.BlockParts.{start_of}
use Rattle.pvm_ops.proofs.Cutting.{block_is, has_range, length_blocks}
use Rattle.pvm_ops.proofs.blocks.Blocks.block.Goals as goal

pub start_of-start-requires : goal.start_of-start-requires
start_of-start-requires c =
    let blocks = c.self.inside.blocks.items in
    omega (arith, ap length c.deref.ensures.value, length_blocks 0 c.self.inside.instrs.items blocks, ap (λ (l : BlockList). length l.blocks) c.self.view_is, c.requires)

pub index-requires : goal.index-requires
index-requires c =
    let blocks = c.self.inside.blocks in
    omega (arith, blocks.ok.0, length_blocks 0 c.self.inside.instrs.items blocks.items, ap (λ (l : BlockList). length l.blocks) c.self.view_is, c.requires)

pub part-requires : goal.part-requires
part-requires c =
    let instrs = c.self.inside.instrs.items in
    let blocks = c.self.inside.blocks.items in
    let at = c.args.at in
    let d = c.index.result.now in
    let within : at < length blocks = omega (arith, length_blocks 0 instrs blocks, ap (λ (l : BlockList). length l.blocks) c.self.view_is, c.requires) in
    let range = has_range 0 (length instrs) blocks at d c.self.invariant.1 within in
    let start : c.start_of-start.result ≡ start_of 0 blocks at = c.start_of-start.ensures ∙ ap (λ l. start_of 0 l at) c.deref.ensures.value in
    let end : d.end ≡ (get_or blocks at d).end = ap (λ (b : BasicBlock). b.end) c.index.ensures in
    record { order = omega (arith, start, end, range.order); within = omega (arith, end, range.within, ap length c.deref-2.ensures.value) }

pub returns : goal.returns
returns c =
    let instrs = c.self.inside.instrs.items in
    let blocks = c.self.inside.blocks.items in
    let at = c.args.at in
    let d = c.index.result.now in
    let within : at < length blocks = omega (arith, length_blocks 0 instrs blocks, ap (λ (l : BlockList). length l.blocks) c.self.view_is, c.requires) in
    let start : c.start_of-start.result ≡ start_of 0 blocks at = c.start_of-start.ensures ∙ ap (λ l. start_of 0 l at) c.deref.ensures.value in
    let end : d.end ≡ (get_or blocks at d).end = ap (λ (b : BasicBlock). b.end) c.index.ensures in
    c.part.ensures ∙ ap (λ l. slice_range l c.start_of-start.result d.end) c.deref-2.ensures.value ∙ ap (λ s. slice_range instrs s d.end) start
    ∙ ap (slice_range instrs (start_of 0 blocks at)) end ∙ sym (ap (λ (b : Block). b.instrs) (block_is 0 instrs blocks at d within))
    ∙ ap (λ (l : BlockList). (block_at l at).instrs) c.self.view_is
