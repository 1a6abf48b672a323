-- Why a container, and what a file of replies holds, isn't run.
use Rattle.std.specs.Prelude.{ℕ, ◌*◌, ◌^◌, List, length, not, nat_lt, Option, Some, None, Result, Ok, Err}
use Rattle.faults.specs.First.{◌or_else◌, where_true}
use Rattle.elf_objects.specs.declared.fault.Fault.{Fault}
use Rattle.blob_check.specs.Starts.{is_start}
use Rattle.blob_codec.specs.Grammar.{Container}
use Rattle.blob_codec.specs.Reading.{container_of}
use Rattle.transcript.specs.Hosts.{Reply}
use Rattle.transcript.specs.Grammar.{replies_of}
use Rattle.polkatool_cmd.specs.BlobFaults.{blob_fault, blob_fault_at, container_fault}
use Rattle.polkatool_cmd.specs.Faults.{too_large, file_too_large}
use Rattle.polkatool_cmd.specs.declared.fault_codes.TheConstants.{ARGUMENT_TOO_LARGE, BAD_ENTRY, BAD_REPLY_LINE}

-- the argument has more than 2^24 bytes: code 46
abbrev pub argument_fault : List ℕ → Option Fault
argument_fault argument = where_true (nat_lt (2 ^ 24) (length argument)) (blob_fault ARGUMENT_TOO_LARGE)

-- no block starts at the position of an entry's jump: code 47
abbrev pub bad_entry_fault : ℕ → Container → Option Fault
bad_entry_fault entry c = where_true (not (is_start c.program.code (5 * entry))) (blob_fault BAD_ENTRY)

-- the fault of a container that is to be run from an entry with an argument: an argument that is too long; no block starts
-- at the position of the entry's jump
abbrev pub run_fault_in : ℕ → List ℕ → Container → Option Fault
run_fault_in entry argument c = argument_fault argument or_else bad_entry_fault entry c

-- the first fault of bytes that are to be run from an entry with an argument: they are no container, or it has a fault
abbrev pub first_start_fault : ℕ → List ℕ → List ℕ → Option Fault
first_start_fault entry argument blob = container_fault (run_fault_in entry argument) (container_of blob)

-- a line that is no reply: code 60, with the line's number, counted from 1, as offset
abbrev pub bad_reply_line : ℕ → Fault
bad_reply_line line = blob_fault_at BAD_REPLY_LINE line

-- the first line that is no reply
abbrev pub reply_line_fault : Result (List Reply) ℕ → Option Fault
reply_line_fault (Ok replies) = None
reply_line_fault (Err line) = Some (bad_reply_line line)

-- the first fault of a file of replies, with its number in the order of reading: more than 2^20 bytes, or a line that is no
-- reply
abbrev pub replies_fault : ℕ → List ℕ → Option Fault
replies_fault number file =
    where_true (nat_lt (2 ^ 20) (length file)) (file_too_large number) or_else reply_line_fault (replies_of file)

-- The first fault of what a blob's file and a file of replies hold, for a run from an entry with an argument, in this
-- order: more than 2^27 bytes of the first; more than 2^20 bytes of the second; a line that is no reply; no container,
-- or what is wrong with it. Without a file of replies the second has no bytes.
abbrev pub first_run_fault : ℕ → List ℕ → List ℕ → List ℕ → Option Fault
first_run_fault entry argument blob replies =
    where_true (nat_lt (2 ^ 27) (length blob)) too_large
    or_else where_true (nat_lt (2 ^ 20) (length replies)) (file_too_large 1)
    or_else reply_line_fault (replies_of replies)
    or_else first_start_fault entry argument blob
