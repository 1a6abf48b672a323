use Rattle.std.proofs.Common.{◌≡◌, ◌+◌, ◌<◌, ℕ, List, Option, Some, None, length, get_or, sym, ap, ◌∙◌, arith, length-append}
use Rattle.std.specs.Prelude.{IfSome, slice_index}
use Rattle.std.proofs.lemmas.List.{get_or_read}
use Rattle.pvm_ops.specs.declared.instr.Instr.{Instr}
use Rattle.pvm_ops.specs.Listing.{Listing}
use Rattle.pvm_ops.specs.Fetch.{trap}
use Rattle.pvm_ops.specs.Spelling.{spelling}
use Rattle.pvm_ops.specs.BlockList.{BlockList, block_at}
use Rattle.jump_table.specs.Assembly.{first_of, instr_position}
use Rattle.jump_table.specs.Laws.{IsAssemblable}
use Rattle.jump_table.specs.Assembling.{AreStarts, instr_at, with_word}
use Rattle.jump_table.proofs.Steps.{instr_known, next_known, next_fits, next_instr, next_is, target_within, instr_more, instr_next, instr_within, word_mask}
use Rattle.jump_table.proofs.writing.write_block.Goals as goal

-- the target is among the blocks
within : (list : BlockList) (starts : List ℕ) (block : ℕ) (target : Option ℕ) → IsAssemblable list → length starts ≡ length list.blocks → block < length list.blocks → (block_at list block).target ≡ target → IfSome target (λ to. to < length starts)
within list starts block None plain same lt e = tt
within list starts block (Some to) plain same lt e = omega (arith, target_within list plain block to lt e)

-- the instruction that is written
written : (lengths : List ℕ) (list : BlockList) (starts from : List ℕ) (items : List Instr) (block k at size : ℕ) (target : Option ℕ) (i : Instr) → IsAssemblable list → AreStarts lengths list from → block < length list.blocks → items ≡ (block_at list block).instrs → target ≡ (block_at list block).target → starts ≡ from → at ≡ size → size ≡ instr_position lengths list (first_of list block + k) → i ≡ instr_at at (get_or items k trap) target starts → i ≡ next_instr lengths list block k
written lengths list starts from items block k at size target i plain are lt is_items is_target is_starts is_at is_size is = is ∙ rw (is_items, is_target, is_starts) (next_is lengths list from plain are block k at lt (is_at ∙ is_size))

pub instr_at-instr-requires-clause-known : goal.instr_at-instr-requires-clause-known
instr_at-instr-requires-clause-known c =
    rw c.block-instr-items.ensures (instr_known c.args.blocks.now c.requires.blocks c.args.block c.loop-instr.instr-index c.requires.block (omega (arith, ap length c.block-instr-items.ensures)))

pub instr_at-instr-requires-clause-target : goal.instr_at-instr-requires-clause-target
instr_at-instr-requires-clause-target c =
    within c.args.blocks.now c.deref.result.now c.args.block c.target-target.result c.requires.blocks (ap length c.deref.ensures.value ∙ c.requires.positions.are_starts.count) c.requires.block (sym c.target-target.ensures)

pub place-requires : goal.place-requires
place-requires c =
    let list = c.args.blocks.now in
    let block = c.args.block in
    let k = c.loop-instr.instr-index in
    let inside : k < length (block_at list block).instrs = omega (arith, ap length c.block-instr-items.ensures) in
    let len_is = get_or_read c.args.positions.now.lengths.items block c.index-len.result.now (omega (arith, c.requires.positions.are_lengths.count, c.requires.block)) c.index-len.ensures 0 in
    let is = written c.args.positions.now.lengths.items list c.deref.result.now c.args.positions.now.starts.items c.block-instr-items.result.now block k c.len.result (length c.loop-instr.writer.bytes) c.target-target.result c.instr_at-instr.result c.requires.blocks c.requires.positions.are_starts c.requires.block c.block-instr-items.ensures c.target-target.ensures c.deref.ensures.value c.len.ensures c.loop-instr.invariant.at c.instr_at-instr.ensures in
    record {
      known = rw is (next_known c.args.positions.now.lengths.items list c.requires.blocks block k c.requires.block inside);
      encodable = rw (is, len_is) (next_fits c.args.positions.now.lengths.items list c.requires.blocks c.requires.positions.are_lengths.wide (omega arith) block k c.requires.block inside);
      room = omega (arith, instr_within c.args.positions.now.lengths.items list block k c.requires.block inside);
    }

pub loop-instr-preserved : goal.loop-instr-preserved
loop-instr-preserved c =
    let list = c.args.blocks.now in
    let block = c.args.block in
    let k = c.loop-instr.instr-index in
    let writer = c.loop-instr.writer in
    let inside : k < length (block_at list block).instrs = omega (arith, ap length c.block-instr-items.ensures) in
    let len_is = get_or_read c.args.positions.now.lengths.items block c.index-len.result.now (omega (arith, c.requires.positions.are_lengths.count, c.requires.block)) c.index-len.ensures 0 in
    let is = written c.args.positions.now.lengths.items list c.deref.result.now c.args.positions.now.starts.items c.block-instr-items.result.now block k c.len.result (length writer.bytes) c.target-target.result c.instr_at-instr.result c.requires.blocks c.requires.positions.are_starts c.requires.block c.block-instr-items.ensures c.target-target.ensures c.deref.ensures.value c.len.ensures c.loop-instr.invariant.at c.instr_at-instr.ensures in
    let word = spelling (next_instr c.args.positions.now.lengths.items list block k) (slice_index c.args.positions.now.lengths.items block) in
    let placed : c.place.new.self ≡ with_word writer word = c.in_ok-place.ensures ∙ ap (λ (i : Instr). with_word writer (spelling i c.index-len.result.now)) is ∙ ap (λ (len : ℕ). with_word writer (spelling (next_instr c.args.positions.now.lengths.items list block k) len)) len_is in
    record {
      left = rw placed (sym (instr_more c.args.positions.now.lengths.items list writer block k inside) ∙ c.loop-instr.invariant.left);
      at = ap (λ (code : Listing). length code.bytes) placed ∙ omega (arith, length-append writer.bytes word, instr_next c.args.positions.now.lengths.items list block k c.requires.block inside);
      room = ap (λ (code : Listing). length code.mask) placed ∙ word_mask writer word ∙ c.loop-instr.invariant.room;
    }
