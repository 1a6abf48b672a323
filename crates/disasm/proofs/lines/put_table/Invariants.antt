use Rattle.std.proofs.Common.{◌≡◌}
use Rattle.faults.specs.Present.{each_below}
use Rattle.disasm.specs.Disassembly.{entry_line}
use Rattle.disasm.specs.Putting.{Adds}
use Rattle.disasm.proofs.lines.put_table.Given as goal

abbrev pub invariant-loop-entry : goal.invariant-loop-entry
invariant-loop-entry g l = record {
  put : Adds (g.S.Sink.bytes l.initial.out) (g.S.Sink.bytes l.out) l.initial.text.bytes l.text.bytes (each_below l.entry (entry_line l.program));
  faults : g.S.Sink.faults l.out ≡ g.S.Sink.faults l.initial.out;
}
