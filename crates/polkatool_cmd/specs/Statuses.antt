-- The exit statuses of the process.
use Rattle.std.specs.Prelude.{ℕ, Option, Some, None}
use Rattle.machine_state.specs.Ends.{End, Halt, Panic, Fault, Unanswered as NoReply, BadReply as WrongReply}
use Rattle.polkatool_cmd.specs.declared.status.Status.{Status}
use Rattle.polkatool_cmd.specs.declared.status.Status.TheVariants.{Done, Refused, Usage, FileFault, Panicked, Faulted, OutOfGas, Unanswered, BadReply, Memory}

-- the status of the end of a run; no end is that of gas
abbrev pub status_of : Option End → Status
status_of None = OutOfGas
status_of (Some (Halt registers memory)) = Done
status_of (Some (Panic memory)) = Panicked
status_of (Some (Fault address memory)) = Faulted
status_of (Some (NoReply number memory)) = Unanswered
status_of (Some (WrongReply line address memory)) = BadReply

-- the exit status of a status
abbrev pub status_number : Status → ℕ
status_number Done = 0
status_number Refused = 1
status_number Usage = 2
status_number FileFault = 3
status_number Panicked = 4
status_number Faulted = 5
status_number OutOfGas = 6
status_number Unanswered = 7
status_number BadReply = 8
status_number Memory = 9
