use Rattle.std.proofs.Common.{length, ap, ◌∙◌, arith}
use Rattle.pvm_ops.specs.Listing.{Listing}
use Rattle.jump_table.specs.Assembly.{words, entry_jumps}
use Rattle.jump_table.proofs.Steps.{all_written, room_new, entries_size, words_size, words_mask}
use Rattle.jump_table.proofs.writing.write.Goals as goal

pub write_entries-requires-clause-room : goal.write_entries-requires-clause-room
write_entries-requires-clause-room c = rw c.in_ok-writer.ensures (room_new c.args.positions.now.lengths.items c.args.blocks.now c.args.positions.now.end c.requires.positions.is_end)

pub write_blocks-requires-clause-room : goal.write_blocks-requires-clause-room
write_blocks-requires-clause-room c =
    let list = c.args.blocks.now in
    let new = room_new c.args.positions.now.lengths.items list c.args.positions.now.end c.requires.positions.is_end in
    let same = words_mask c.in_ok-writer.writer (words (entry_jumps c.args.positions.now.lengths.items list 0 list.entries)) in
    rw (c.in_ok-write_entries.ensures, same, c.in_ok-writer.ensures) new

pub write_blocks-requires-clause-after : goal.write_blocks-requires-clause-after
write_blocks-requires-clause-after c =
    let list = c.args.blocks.now in
    let jumps = words (entry_jumps c.args.positions.now.lengths.items list 0 list.entries) in
    ap (λ (code : Listing). length code.bytes) c.in_ok-write_entries.ensures
    ∙ omega (arith, words_size c.in_ok-writer.writer jumps, ap (λ (code : Listing). length code.bytes) c.in_ok-writer.ensures, entries_size c.args.positions.now.lengths.items list 0 list.entries)

pub returns : goal.returns
returns c =
    let list = c.args.blocks.now in
    rw (c.in_ok-write_blocks.ensures, c.in_ok-write_entries.ensures, c.in_ok-writer.ensures) (all_written c.args.positions.now.lengths.items list c.args.positions.now.end c.requires.positions.is_end)
