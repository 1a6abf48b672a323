use Rattle.std.proofs.Common.{◌≡◌, ◌+◌, ◌≤◌, length}
use Rattle.transcript.specs.Grammar.{lines, replies_from, replies_of}
use Rattle.transcript.proofs.Reading.{replies_before}
use Rattle.transcript.proofs.replies.Replies.read.Given as goal

abbrev pub invariant-loop-rest : goal.invariant-loop-rest
invariant-loop-rest l = record {
  read : replies_before l.items.items (replies_from l.number (lines l.rest)) ≡ replies_of l.fn.bytes;
  count : length l.items.items + 1 ≡ l.number;
  within : l.number + length l.rest ≤ length l.fn.bytes + 1;
}

abbrev pub decreases-loop-rest : goal.decreases-loop-rest
decreases-loop-rest l = length l.rest
