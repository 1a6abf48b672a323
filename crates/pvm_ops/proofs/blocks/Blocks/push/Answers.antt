use Rattle.std.proofs.Common.{◌≡◌, ◌+◌, ◌∙◌, [], ◌∷◌, suc, ◌-◌, length, length-append, ap, arith}
use Rattle.std.proofs.Math.ListN.{set}
use Rattle.pvm_ops.specs.declared.blocks.BasicBlock.{BasicBlock}
use Rattle.pvm_ops.specs.BlockList.{BlockList, change_last, with_instr}
use Rattle.pvm_ops.specs.BlockParts.{are_cut, blocks_from}
use Rattle.pvm_ops.proofs.Cutting.{length_blocks, list_changed, pushed, pushed_cut}
use Rattle.pvm_ops.proofs.blocks.Blocks.push.Goals as goal

pub invariant_of-self-2 : goal.invariant_of-self-2
invariant_of-self-2 c =
    let instrs = c.self.inside.instrs in
    let blocks = c.self.inside.blocks in
    let last : suc (c.len-last.result - 1) ≡ length blocks.items =
    omega (arith, c.len-last.ensures, blocks.ok.0, length_blocks 0 instrs.items blocks.items, ap (λ (l : BlockList). length l.blocks) c.self.view_is, c.requires) in
    let b : BasicBlock = record { end = c.len.result; target = c.index_mut.result.now.target } in
    let grown : length c.push.new.self.items ≡ length instrs.items + 1 = omega (arith, ap length c.in_ok-push.ensures.items, length-append instrs.items (c.args.instr ∷ [])) in
    let end : c.len.result ≡ length instrs.items + 1 = omega (arith, c.len.ensures, c.push.new.self.ok.0, grown) in (
      c.self.invariant.0,
      ap (λ n. are_cut 0 n (set blocks.items (c.len-last.result - 1) b)) grown ∙ pushed_cut 0 (length instrs.items) blocks.items (c.len-last.result - 1) b c.self.invariant.1 last end,
    )

pub returns-clause-ok : goal.returns-clause-ok
returns-clause-ok c =
    let instrs = c.self.inside.instrs in
    let blocks = c.self.inside.blocks in
    let last : suc (c.len-last.result - 1) ≡ length blocks.items =
    omega (arith, c.len-last.ensures, blocks.ok.0, length_blocks 0 instrs.items blocks.items, ap (λ (l : BlockList). length l.blocks) c.self.view_is, c.requires) in
    let b : BasicBlock = record { end = c.len.result; target = c.index_mut.result.now.target } in
    let grown : length c.push.new.self.items ≡ length instrs.items + 1 = omega (arith, ap length c.in_ok-push.ensures.items, length-append instrs.items (c.args.instr ∷ [])) in
    let end : c.len.result ≡ length instrs.items + 1 = omega (arith, c.len.ensures, c.push.new.self.ok.0, grown) in
    list_changed (change_last (with_instr c.args.instr)) _ _ _ c.self.view_is
    (ap (λ l. blocks_from 0 l (set blocks.items (c.len-last.result - 1) b)) c.in_ok-push.ensures.items
    ∙ pushed 0 instrs.items c.args.instr blocks.items (c.len-last.result - 1) b c.index_mut.result.now c.self.invariant.1 last (ap (λ (b : BasicBlock). b.target) c.index_mut.ensures.value) end)
