use Rattle.std.proofs.Common.{◌≡◌, ◌<◌, ◌^◌, drop}
use Rattle.polkatool_cmd.specs.Values.{below, digits_after}
use Rattle.polkatool_cmd.proofs.values.digits.Given as goal

abbrev pub invariant-loop-byte : goal.invariant-loop-byte
invariant-loop-byte l = record {
  small : l.number < 2 ^ 64;
  read : below (2 ^ 64) (digits_after l.number (drop l.byte-index l.word)) ≡ below (2 ^ 64) (digits_after 0 l.word);
}
