use Rattle.std.proofs.Common.{◌≡◌, ◌+◌, length, drop, slice_index}
use Rattle.pvm_ops.specs.BlockList.{block_at}
use Rattle.jump_table.specs.Assembly.{members, first_of, words, instr_position, placed}
use Rattle.jump_table.specs.Assembling.{with_words}
use Rattle.jump_table.proofs.writing.write_block.Given as goal

abbrev pub invariant-loop-instr : goal.invariant-loop-instr
invariant-loop-instr l =
    let b = block_at l.blocks l.block in
    let number = first_of l.blocks l.block in record {
      left : with_words l.writer (words (placed l.positions.lengths.items l.blocks (number + l.instr-index) (members (slice_index l.positions.lengths.items l.block) (record { instrs = drop l.instr-index b.instrs; target = b.target })))) ≡ with_words l.fn.writer (words (placed l.positions.lengths.items l.blocks number (members (slice_index l.positions.lengths.items l.block) b)));
      at : length l.writer.bytes ≡ instr_position l.positions.lengths.items l.blocks (number + l.instr-index);
      room : length l.writer.mask ≡ length l.fn.writer.mask;
    }
