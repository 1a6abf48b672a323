use Rattle.std.proofs.Common.{◌≡◌, ◌+◌, ◌≤◌, length, drop}
use Rattle.runs.specs.Joined.{joined}
use Rattle.jump_table.specs.Assembly.{offset_len}
use Rattle.jump_table.specs.Assembling.{most_bytes, spelled}
use Rattle.jump_table.proofs.shapes.size_of.Given as goal

abbrev pub invariant-loop-instr : goal.invariant-loop-instr
invariant-loop-instr l = record {
  size : l.size + length (joined (spelled offset_len (drop l.instr-index l.instrs))) ≡ length (joined (spelled offset_len l.instrs));
  small : l.size ≤ most_bytes;
}
