use Rattle.std.proofs.Common.{sym}
use Rattle.page_memory.proofs.Allowed.{none_barred, allows_is, allowed_ends, allowed_free, less_than_all}
use Rattle.page_memory.proofs.laws.ranges_are_allowed.Goals as goal

pub returns : goal.returns
returns c = record {
  reported = λ memory writing at len least is. sym (allows_is least memory writing at len is);
  ends = λ memory writing at len some allows. allowed_ends memory writing at len some (none_barred memory writing at len allows);
  free = λ memory writing at len ends allows. allowed_free memory writing at len ends (none_barred memory writing at len allows);
  small = λ memory writing at len has allows. less_than_all memory writing at len has (none_barred memory writing at len allows);
}
