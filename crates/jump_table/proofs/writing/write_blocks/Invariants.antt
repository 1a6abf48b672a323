use Rattle.std.proofs.Common.{◌≡◌, length, drop}
use Rattle.runs.specs.Joined.{joined}
use Rattle.jump_table.specs.Assembly.{groups, members_of, first_of, words, start_of, placed}
use Rattle.jump_table.specs.Assembling.{with_words}
use Rattle.jump_table.proofs.writing.write_blocks.Given as goal

abbrev pub invariant-loop-block : goal.invariant-loop-block
invariant-loop-block l = record {
  left : with_words l.writer (words (placed l.positions.lengths.items l.blocks (first_of l.blocks l.block) (joined (drop l.block (groups l.positions.lengths.items l.blocks.blocks))))) ≡ with_words l.fn.writer (words (placed l.positions.lengths.items l.blocks 0 (members_of l.positions.lengths.items l.blocks)));
  at : length l.writer.bytes ≡ start_of l.positions.lengths.items l.blocks l.block;
  room : length l.writer.mask ≡ length l.fn.writer.mask;
}
