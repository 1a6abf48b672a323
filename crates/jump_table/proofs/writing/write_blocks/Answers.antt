use Rattle.std.proofs.Common.{◌≡◌, ◌<◌, ℕ, slice_index, length, refl, sym, ap, ◌∙◌, arith}
use Rattle.pvm_ops.specs.Listing.{Listing}
use Rattle.pvm_ops.specs.BlockList.{block_at}
use Rattle.jump_table.specs.Assembly.{members, members_of, first_of, words, placed}
use Rattle.jump_table.specs.Assembling.{with_words}
use Rattle.jump_table.proofs.Blocks.{start_first}
use Rattle.jump_table.proofs.BlockStarts.{start_next}
use Rattle.jump_table.proofs.Steps.{block_more, block_size, blocks_none, first_zero, words_size, words_mask}
use Rattle.jump_table.proofs.writing.write_blocks.Goals as goal

pub loop-block-init : goal.loop-block-init
loop-block-init c = record {
  left = ap (λ (n : ℕ). with_words c.args.writer.now (words (placed c.args.positions.now.lengths.items c.args.blocks.now n (members_of c.args.positions.now.lengths.items c.args.blocks.now)))) (first_zero c.args.blocks.now);
  at = c.requires.after ∙ sym (start_first c.args.positions.now.lengths.items c.args.blocks.now);
  room = refl;
}

pub loop-block-preserved : goal.loop-block-preserved
loop-block-preserved c =
    let list = c.args.blocks.now in
    let block = c.loop-block.block in
    let writer = c.loop-block.writer in
    let lt : block < length list.blocks = omega (arith, c.len-block-end.ensures.value) in
    let ws = words (placed c.args.positions.now.lengths.items list (first_of list block) (members (slice_index c.args.positions.now.lengths.items block) (block_at list block))) in
    let written : c.write_block.new.writer ≡ with_words writer ws = c.in_ok-write_block.ensures in
    record {
      left = rw written (sym (block_more c.args.positions.now.lengths.items list writer block lt) ∙ c.loop-block.invariant.left);
      at = ap (λ (code : Listing). length code.bytes) written ∙ omega (arith, words_size writer ws, block_size c.args.positions.now.lengths.items list (first_of list block) block, start_next c.args.positions.now.lengths.items list block lt);
      room = ap (λ (code : Listing). length code.mask) written ∙ words_mask writer ws ∙ c.loop-block.invariant.room;
    }

pub returns : goal.returns
returns c = sym (blocks_none c.args.positions.now.lengths.items c.args.blocks.now c.loop-block.writer c.loop-block.block (omega (arith, c.len-block-end.ensures.value))) ∙ c.loop-block.invariant.left
