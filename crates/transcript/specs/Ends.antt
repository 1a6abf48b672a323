-- The end of a run, as the program reports it.
use Rattle.std.specs.Prelude.{◌<◌, ◌^◌, Option, Some, None}
use Rattle.machine_state.specs.State.{State}
use Rattle.machine_state.specs.Ends as ends
use Rattle.transcript.specs.declared.run_end.RunEnd.{RunEnd}
use Rattle.transcript.specs.declared.run_end.RunEnd.TheVariants.{Halt, Panic, Fault, OutOfGas, Unanswered, BadReply}

-- the end with the state that it left; a run that is out of gas has no end
abbrev pub end_of : RunEnd → State → Option ends.End
end_of Halt s = Some (ends.halt s)
end_of Panic s = Some (ends.panic s)
end_of (Fault address) s = Some (ends.Fault address s.memory)
end_of OutOfGas s = None
end_of (Unanswered number) s = Some (ends.Unanswered number s.memory)
end_of (BadReply line address) s = Some (ends.BadReply line address s.memory)

-- the address of a bad reply has 32 bits
abbrev pub HasAddress : RunEnd → Type 0
HasAddress (BadReply line address) = address < 2 ^ 32
HasAddress end = Unit {0}
