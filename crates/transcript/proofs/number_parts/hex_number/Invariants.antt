use Rattle.std.proofs.Common.{◌≡◌, ◌<◌, ◌^◌, drop}
use Rattle.transcript.specs.Grammar.{digits_after}
use Rattle.transcript.proofs.number_parts.hex_number.Given as goal

abbrev pub invariant-loop-byte : goal.invariant-loop-byte
invariant-loop-byte l = record {
  small : l.number < 16 ^ l.byte-index;
  read : digits_after (drop l.byte-index l.digits) l.number ≡ digits_after l.digits 0;
}
