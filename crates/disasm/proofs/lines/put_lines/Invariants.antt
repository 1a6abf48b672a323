use Rattle.std.proofs.Common.{◌≡◌}
use Rattle.faults.specs.Present.{each_below}
use Rattle.disasm.specs.Disassembly.{line_at}
use Rattle.disasm.specs.Putting.{Adds}
use Rattle.disasm.proofs.lines.put_lines.Given as goal

abbrev pub invariant-loop-at : goal.invariant-loop-at
invariant-loop-at g l = record {
  put : Adds (g.S.Sink.bytes l.initial.out) (g.S.Sink.bytes l.out) l.initial.text.bytes l.text.bytes (each_below l.at (line_at l.code));
  faults : g.S.Sink.faults l.out ≡ g.S.Sink.faults l.initial.out;
}
