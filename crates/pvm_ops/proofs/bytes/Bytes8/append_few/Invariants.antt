use Rattle.std.proofs.Common.{◌≡◌, ◌++◌, take}
use Rattle.pvm_ops.proofs.bytes.Bytes8.append_few.Given as goal

abbrev pub invariant-loop-byte : goal.invariant-loop-byte
invariant-loop-byte l = l.self-inside.bytes.items ≡ l.initial.self-inside.bytes.items ++ take l.byte-index l.piece
