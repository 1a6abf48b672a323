-- Why what a file holds is no container that a command takes.
use Rattle.std.specs.Prelude.{◌≡◌, ℕ, ◌^◌, List, length, nat_lt, Option, Some, None, Result, Ok, Err}
use Rattle.faults.specs.First.{◌or_else◌, where_true}
use Rattle.elf_objects.specs.declared.fault.Fault.{Fault}
use Rattle.blob_codec.specs.declared.fault.BlobFault.{BlobFault}
use Rattle.blob_codec.specs.declared.fault.BlobFault.TheVariants.{Truncated, Overlong, BadWidth, BadPadding, LeftOver}
use Rattle.blob_codec.specs.Grammar.{Container}
use Rattle.blob_codec.specs.Reading.{container_of}
use Rattle.polkatool_cmd.specs.Faults.{too_large}
use Rattle.polkatool_cmd.specs.declared.fault_codes.TheConstants.{TRUNCATED, OVERLONG, BAD_WIDTH, BAD_PADDING, LEFT_OVER}

-- a fault of a blob, at an offset that the code gives a meaning: all other fields are 0
abbrev pub blob_fault_at : ℕ → ℕ → Fault
blob_fault_at code offset = record { code = code; object = 0; section = 0; offset = offset }

-- a fault of a blob as a whole: all fields are 0
abbrev pub blob_fault : ℕ → Fault
blob_fault code = blob_fault_at code 0

-- the code of what keeps bytes from being a container
abbrev pub blob_fault_code : BlobFault → ℕ
blob_fault_code Truncated = TRUNCATED
blob_fault_code Overlong = OVERLONG
blob_fault_code BadWidth = BAD_WIDTH
blob_fault_code BadPadding = BAD_PADDING
blob_fault_code LeftOver = LEFT_OVER

-- the fault of bytes that are no container
abbrev pub no_container : BlobFault → Fault
no_container found = blob_fault (blob_fault_code found)

-- the bytes are no container, and this is their fault
abbrev pub IsNoContainer : List ℕ → Fault → Type 0
IsNoContainer bytes fault = (found : BlobFault) × (container_of bytes ≡ Err found) × (fault ≡ no_container found)

-- the fault of bytes that are no container, or the one that is found in a container
abbrev pub container_fault : (Container → Option Fault) → Result Container BlobFault → Option Fault
container_fault fault_in (Err found) = Some (no_container found)
container_fault fault_in (Ok c) = fault_in c

-- The first fault of what a file holds, in this order: more than 2^27 bytes; no container, by the first fault that is
-- met in reading it; what a command finds in a container. None where there is no fault.
abbrev pub first_blob_fault : (Container → Option Fault) → List ℕ → Option Fault
first_blob_fault fault_in file =
    where_true (nat_lt (2 ^ 27) (length file)) too_large
    or_else container_fault fault_in (container_of file)

-- the first fault for a command that takes every container
abbrev pub first_disassemble_fault : List ℕ → Option Fault
first_disassemble_fault file = first_blob_fault (λ c. None) file
