use Rattle.std.proofs.Common.{◌≡◌, ◌∙◌, [], ◌∷◌, ◌++◌, length, refl, ap, arith}
use Rattle.pvm_ops.specs.BlockList.{BlockList, empty_block}
use Rattle.pvm_ops.specs.BlockParts.{are_cut, blocks_from}
use Rattle.pvm_ops.proofs.Cutting.{begun, begun_cut, length_blocks, list_changed}
use Rattle.pvm_ops.proofs.blocks.Blocks.begin.Goals as goal

pub invariant_of-self-2 : goal.invariant_of-self-2
invariant_of-self-2 c =
    let instrs = c.self.inside.instrs in
    let blocks = c.self.inside.blocks in
    let end : c.len.result ≡ length instrs.items = omega (arith, c.len.ensures, instrs.ok.0) in (
      omega (arith, c.in_ok-push.ensures.len, blocks.ok.0, length_blocks 0 instrs.items blocks.items, ap (λ (l : BlockList). length l.blocks) c.self.view_is, c.requires),
      ap (are_cut 0 (length instrs.items)) c.in_ok-push.ensures.items ∙ begun_cut 0 (length instrs.items) blocks.items _ c.self.invariant.1 end,
    )

pub returns-clause-ok : goal.returns-clause-ok
returns-clause-ok c =
    let instrs = c.self.inside.instrs in
    let blocks = c.self.inside.blocks in
    let end : c.len.result ≡ length instrs.items = omega (arith, c.len.ensures, instrs.ok.0) in
    list_changed (λ bs. bs ++ empty_block ∷ []) _ _ _ c.self.view_is
    (ap (blocks_from 0 instrs.items) c.in_ok-push.ensures.items ∙ begun 0 instrs.items blocks.items _ c.self.invariant.1 end refl)
