use Rattle.std.proofs.Common.{◌≡◌, suc, ◌-◌, length, refl, ap, arith}
use Rattle.pvm_ops.specs.declared.blocks.BasicBlock.{BasicBlock}
use Rattle.pvm_ops.specs.BlockList.{BlockList, change_last, with_target}
use Rattle.pvm_ops.proofs.Cutting.{targeted, targeted_cut, length_blocks, list_changed}
use Rattle.pvm_ops.proofs.blocks.Blocks.aim.Goals as goal

pub invariant_of-self : goal.invariant_of-self
invariant_of-self c =
    let instrs = c.self.inside.instrs.items in
    let blocks = c.self.inside.blocks in
    let last : suc (c.len-last.result - 1) ≡ length blocks.items =
    omega (arith, c.len-last.ensures, blocks.ok.0, length_blocks 0 instrs blocks.items, ap (λ (l : BlockList). length l.blocks) c.self.view_is, c.requires) in
    (c.self.invariant.0, targeted_cut 0 (length instrs) blocks.items (c.len-last.result - 1) _ c.index_mut.result.now c.self.invariant.1 last (ap (λ (b : BasicBlock). b.end) c.index_mut.ensures.value))

pub returns : goal.returns
returns c =
    let instrs = c.self.inside.instrs.items in
    let blocks = c.self.inside.blocks in
    let last : suc (c.len-last.result - 1) ≡ length blocks.items =
    omega (arith, c.len-last.ensures, blocks.ok.0, length_blocks 0 instrs blocks.items, ap (λ (l : BlockList). length l.blocks) c.self.view_is, c.requires) in
    list_changed (change_last (with_target c.args.target)) _ _ _ c.self.view_is
    (targeted 0 c.args.target instrs blocks.items (c.len-last.result - 1) _ c.index_mut.result.now last (ap (λ (b : BasicBlock). b.end) c.index_mut.ensures.value) refl)
