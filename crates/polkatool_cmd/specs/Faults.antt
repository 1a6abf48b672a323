-- Files that are too large to be read.
use Rattle.std.specs.Prelude.{ℕ, ◌+◌, ◌-◌, ◌^◌, min, List, [], ◌∷◌, length, nat_lt, if◌then◌else◌, Option, Some, None}
use Rattle.elf_objects.specs.declared.fault.Fault.{Fault}
use Rattle.polkatool_cmd.specs.declared.fault_codes.TheConstants.{FILE_TOO_LARGE}

-- a file with too many bytes: code 61, with the file's number in the order of reading
abbrev pub file_too_large : ℕ → Fault
file_too_large number = record { code = FILE_TOO_LARGE; object = number; section = 0; offset = 0 }

-- the one file of a command
abbrev pub too_large : Fault
too_large = file_too_large 0

-- how many bytes an object's file may have, by the number that is left of 2^26 for all
abbrev pub limit_of : ℕ → ℕ
limit_of left = min left (2 ^ 24)

-- the first of files that has more bytes than it may, where the first has this number
abbrev pub too_large_from : ℕ → ℕ → List (List ℕ) → Option Fault
too_large_from number left [] = None
too_large_from number left (file ∷ files) =
    if nat_lt (limit_of left) (length file) then Some (file_too_large number)
    else too_large_from (number + 1) (left - length file) files

-- The first file that is too large: an object has at most 2^24 bytes, and all of them together 2^26.
abbrev pub first_too_large : List (List ℕ) → Option Fault
first_too_large files = too_large_from 0 (2 ^ 26) files
