-- The transcript of a run: a line for each host call, one for the end, and one for the gas that is left.
use Rattle.std.specs.Prelude.{ℕ, List, ◌++◌, Option, Some, None, codes}
use Rattle.std.specs.Fmt.{decimal}
use Rattle.std.specs.List.{flat_map}
use Rattle.runs.specs.Runs.{MeteredRun}
use Rattle.machine_state.specs.Ends.{Event, End, Halt, Panic, Fault, Unanswered, BadReply}
use Rattle.machine_state.specs.Output.{output}
use Rattle.disasm.specs.Digits.{hex, hex_digits}

-- a label and a number in decimal
abbrev pub number_field : List ℕ → ℕ → List ℕ
number_field label number = label ++ decimal number

-- a register's value, in sixteen digits
abbrev pub register_field : ℕ → List ℕ
register_field value = codes " " ++ hex_digits 16 value

-- the line of a host call: its number, and the registers in sixteen digits each
unfoldable pub event_line : Event → List ℕ
event_line e = number_field (codes "call ") e.number ++ flat_map register_field e.registers ++ codes "\n"

-- the address of a page fault, in eight digits
abbrev pub address_field : ℕ → List ℕ
address_field address = codes " address=" ++ hex_digits 8 address

-- the line of a call that no reply is left for
unfoldable pub unanswered_line : ℕ → List ℕ
unanswered_line number = number_field (codes "unanswered call=") number ++ codes "\n"

-- the line of a reply that writes where it may not
unfoldable pub bad_reply_line : ℕ → ℕ → List ℕ
bad_reply_line line address = number_field (codes "bad-reply line=") line ++ address_field address ++ codes "\n"

-- the line of an end; a run that is out of gas has none
unfoldable pub end_line : Option End → List ℕ
end_line None = codes "out-of-gas\n"
end_line (Some (Halt registers memory)) = codes "halt output=" ++ hex (output registers memory) ++ codes "\n"
end_line (Some (Panic memory)) = codes "panic\n"
end_line (Some (Fault address memory)) = codes "fault" ++ address_field address ++ codes "\n"
end_line (Some (Unanswered number memory)) = unanswered_line number
end_line (Some (BadReply line address memory)) = bad_reply_line line address

-- the line of the gas that is left
abbrev pub gas_line : ℕ → List ℕ
gas_line left = number_field (codes "gas left=") left ++ codes "\n"

-- the two last lines
abbrev pub last_lines : Option End → ℕ → List ℕ
last_lines end left = end_line end ++ gas_line left

-- the lines of events
abbrev pub event_lines : List Event → List ℕ
event_lines events = flat_map event_line events

-- the lines of a run under gas
abbrev pub transcript : MeteredRun Event End → List ℕ
transcript run = event_lines run.events ++ last_lines run.end run.left
