-- Why a check refuses what a file holds.
use Rattle.std.specs.Prelude.{List, ℕ, Option}
use Rattle.std.specs.Option.{option_map}
use Rattle.std.specs.Result.{result_err}
use Rattle.elf_objects.specs.declared.fault.Fault.{Fault}
use Rattle.blob_codec.specs.Grammar.{Container}
use Rattle.blob_check.specs.Faults.{check_of}
use Rattle.blob_check.specs.declared.checking.CheckFault.{CheckFault}
use Rattle.blob_check.specs.declared.checking.CheckFault.TheVariants.{NoFirst, UnknownOpcode, BadTarget, BadEntry, OpenEnd}
use Rattle.polkatool_cmd.specs.BlobFaults.{blob_fault, blob_fault_at, first_blob_fault}
use Rattle.polkatool_cmd.specs.declared.fault_codes.TheConstants.{NO_FIRST, UNKNOWN_OPCODE, BAD_TARGET, BAD_TABLE_ENTRY, OPEN_END}

-- how the fault of a program is reported: its position, or the number of its entry, is the offset
abbrev pub check_fault : CheckFault → Fault
check_fault NoFirst = blob_fault NO_FIRST
check_fault (UnknownOpcode at) = blob_fault_at UNKNOWN_OPCODE at
check_fault (BadTarget at) = blob_fault_at BAD_TARGET at
check_fault (BadEntry entry) = blob_fault_at BAD_TABLE_ENTRY entry
check_fault (OpenEnd at) = blob_fault_at OPEN_END at

-- the first fault of a container's program
abbrev pub check_fault_in : Container → Option Fault
check_fault_in c = option_map check_fault (result_err (check_of c.program))

-- the first fault of a file whose container is to be checked
abbrev pub first_check_fault : List ℕ → Option Fault
first_check_fault file = first_blob_fault check_fault_in file
