-- The container means what the objects mean.
use Rattle.std.specs.Prelude.{ℕ, ◌<◌, ◌≤◌, ◌^◌, List, length}
use Rattle.std.specs.List.{AllByRecursion}
use Rattle.runs.specs.Agree.{Agree}
use Rattle.symbols.specs.Wanted.{Given}
use Rattle.blob_codec.specs.Grammar.{Container}
use Rattle.transcript.specs.Hosts.{Reply, start_host, IsReply, answering}
use Rattle.link_core.specs.Runs.{source_run, machine_run}

-- For every wanted entry, every argument of at most 2^24 bytes, every list of replies and whatever gas: the container's
-- run makes the host calls that the objects make, and ends as they do, until gas ends; within four instructions for each
-- of their steps, one for the entry and the gas that inner machines were given it does so; and the gas spent is the
-- number of instructions begun, those of inner machines counted (`Agree` says each). Both have the same host.
abbrev pub Agrees : Given → Container → Type 0
Agrees given c =
    (entry : ℕ) (argument : List ℕ) (replies : List Reply) → entry < length given.wanted.entries → length argument ≤ 2 ^ 24 → AllByRecursion IsReply replies
    → Agree (source_run answering (start_host replies) given entry argument) (machine_run answering (start_host replies) c entry argument)
