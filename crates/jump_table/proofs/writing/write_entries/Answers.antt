use Rattle.std.proofs.Common.{◌≡◌, ◌+◌, ◌*◌, ◌<◌, length, get_or, sym, ap, ◌∙◌, arith, length-append}
use Rattle.pvm_ops.specs.declared.instr.Instr.{Instr}
use Rattle.pvm_ops.specs.Listing.{Listing}
use Rattle.pvm_ops.specs.Spelling.{spelling}
use Rattle.jump_table.specs.Assembly.{offset_len, entry_len, jump, start_of, offset}
use Rattle.jump_table.specs.Assembling.{with_word}
use Rattle.jump_table.proofs.BlockStarts.{code_size}
use Rattle.jump_table.proofs.Entries.{jump_known, length-jump}
use Rattle.jump_table.proofs.Steps.{entry_is, entry_more, entry_fits, word_mask}
use Rattle.jump_table.proofs.writing.write_entries.Goals as goal

pub place-requires : goal.place-requires
place-requires c =
    let list = c.args.blocks.now in
    let k = c.loop-block.block-index in
    let is = entry_is c.args.positions.now.lengths.items list c.args.positions.now.starts.items c.entries-block-items.result.now c.requires.blocks c.requires.positions.are_starts c.entries-block-items.ensures k c.len.result c.index.result.now c.offset-offset.result c.jump.result c.loop-block-test.true (c.len.ensures ∙ c.loop-block.invariant.at) c.index.ensures c.offset-offset.ensures c.jump.ensures in
    record {
      known = rw is jump_known;
      encodable = rw is (entry_fits c.args.positions.now.lengths.items list k _ (omega arith) (omega (arith, ap length c.entries-block-items.ensures)));
      room = omega (arith, code_size c.args.positions.now.lengths.items list, ap length c.entries-block-items.ensures);
    }

pub loop-block-preserved : goal.loop-block-preserved
loop-block-preserved c =
    let list = c.args.blocks.now in
    let k = c.loop-block.block-index in
    let writer = c.loop-block.writer in
    let x = offset (entry_len * k) (start_of c.args.positions.now.lengths.items list (get_or list.entries k 0)) in
    let is = entry_is c.args.positions.now.lengths.items list c.args.positions.now.starts.items c.entries-block-items.result.now c.requires.blocks c.requires.positions.are_starts c.entries-block-items.ensures k c.len.result c.index.result.now c.offset-offset.result c.jump.result c.loop-block-test.true (c.len.ensures ∙ c.loop-block.invariant.at) c.index.ensures c.offset-offset.ensures c.jump.ensures in
    let placed : c.place.new.self ≡ with_word writer (spelling (jump x) offset_len) = c.in_ok-place.ensures ∙ ap (λ (i : Instr). with_word writer (spelling i offset_len)) is in
    let next : entry_len * (k + 1) ≡ entry_len * k + entry_len = omega arith in
    let lt : k < length list.entries = omega (arith, ap length c.entries-block-items.ensures) in
    record {
      left = rw (placed, next) (sym (entry_more c.args.positions.now.lengths.items list writer (entry_len * k) k lt) ∙ c.loop-block.invariant.left);
      at = ap (λ (code : Listing). length code.bytes) placed ∙ omega (arith, length-append writer.bytes (spelling (jump x) offset_len), length-jump x);
      room = ap (λ (code : Listing). length code.mask) placed ∙ word_mask writer (spelling (jump x) offset_len) ∙ c.loop-block.invariant.room;
    }
