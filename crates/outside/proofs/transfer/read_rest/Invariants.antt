use Rattle.std.proofs.Common.{◌≡◌, ◌+◌, ◌<◌, length, vec_len}
use Rattle.std.specs.Io.KnownBytes.{Consumes}
use Rattle.outside.proofs.transfer.read_rest.Given as goal

abbrev pub invariant-loop : goal.invariant-loop
invariant-loop g l = record {
  limit : l.most ≡ l.limit + 1;
  piece : 0 < vec_len l.piece;
  within : length l.bytes < l.most;
  taken : Consumes (g.R.Read.remaining l.initial.reader) (g.R.Read.remaining l.reader) l.bytes;
}
