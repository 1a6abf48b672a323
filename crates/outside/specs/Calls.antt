-- The calls of a folder or a sink in memory, some of which are to fail.
use Rattle.std.specs.Prelude.{ℕ, Bool, List, ◌==◌}
use Rattle.std.specs.List.{list_any}
use Rattle.outside.specs.Outside.{next_count}

-- how many calls were made, and the numbers of those that are to fail; the first call is call 0
pub record Calls : Type 0 where
  pub made : ℕ
  pub failing : List ℕ

-- whether the call that comes next is to fail
abbrev pub is_listed : Calls → Bool
is_listed calls = list_any (λ call. call == calls.made) calls.failing

-- the calls after one more
abbrev pub counted : Calls → Calls
counted calls = record calls { made = next_count calls.made }
