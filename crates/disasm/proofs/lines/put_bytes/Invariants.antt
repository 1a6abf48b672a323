use Rattle.std.proofs.Common.{◌≡◌, take}
use Rattle.disasm.specs.Digits.{hex}
use Rattle.disasm.specs.Putting.{Adds}
use Rattle.disasm.proofs.lines.put_bytes.Given as goal

abbrev pub invariant-loop-at : goal.invariant-loop-at
invariant-loop-at g l = record {
  put : Adds (g.S.Sink.bytes l.initial.out) (g.S.Sink.bytes l.out) l.initial.text.bytes l.text.bytes (hex (take l.at l.bytes));
  faults : g.S.Sink.faults l.out ≡ g.S.Sink.faults l.initial.out;
}
