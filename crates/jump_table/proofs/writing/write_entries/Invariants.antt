use Rattle.std.proofs.Common.{◌≡◌, ◌*◌, length, drop}
use Rattle.jump_table.specs.Assembly.{entry_len, words, entry_jumps}
use Rattle.jump_table.specs.Assembling.{with_words}
use Rattle.jump_table.proofs.writing.write_entries.Given as goal

abbrev pub invariant-loop-block : goal.invariant-loop-block
invariant-loop-block l = record {
  left : with_words l.writer (words (entry_jumps l.positions.lengths.items l.blocks (entry_len * l.block-index) (drop l.block-index l.blocks.entries))) ≡ with_words l.fn.writer (words (entry_jumps l.positions.lengths.items l.blocks 0 l.blocks.entries));
  at : length l.writer.bytes ≡ entry_len * l.block-index;
  room : length l.writer.mask ≡ length l.fn.writer.mask;
}
