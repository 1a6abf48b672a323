use Rattle.std.proofs.Common.{◌≡◌, ◌*◌, ◌^◌, ◌<◌, ◌≤◌, ◌-◌, length, drop}
use Rattle.numbers.specs.Bytes.{number_of}
use Rattle.blob_codec.proofs.fields.little_endian.Given as goal

abbrev pub invariant-loop-left : goal.invariant-loop-left
invariant-loop-left l = record {
  within : l.left ≤ length l.bytes;
  value : l.value ≡ number_of (drop l.left l.bytes);
  bound : l.value < 2 ^ (8 * (length l.bytes - l.left));
}

abbrev pub decreases-loop-left : goal.decreases-loop-left
decreases-loop-left l = l.left
