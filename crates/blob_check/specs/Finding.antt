-- The first fault of a program as the code finds it, rule by rule.
use Rattle.std.specs.Prelude.{ℕ, length, slice_index, not, cond, Option, Some, None}
use Rattle.faults.specs.First.{◌or_else◌, where_true, first_below}
use Rattle.pvm_ops.specs.Listing.{Listing, is_marked}
use Rattle.pvm_ops.specs.Opcodes.{is_known}
use Rattle.blob_codec.specs.Grammar.{Program}
use Rattle.blob_check.specs.Starts.{is_start, is_terminator}
use Rattle.blob_check.specs.Faults.{is_no_start, target_of, last_mark}
use Rattle.blob_check.specs.declared.checking.CheckFault.{CheckFault}
use Rattle.blob_check.specs.declared.checking.CheckFault.TheVariants.{NoFirst, UnknownOpcode, BadTarget, BadEntry, OpenEnd}

-- of the instruction at a position
unfoldable pub fault_at : Listing → ℕ → Option CheckFault
fault_at code at =
    cond (is_marked code at)
    (where_true (not (is_known (slice_index code.bytes at))) (UnknownOpcode at)
    or_else where_true (is_no_start code (target_of code at)) (BadTarget at))
    None

-- of the end
abbrev pub fault_of_end : Listing → Option ℕ → Option CheckFault
fault_of_end code (Some at) = where_true (not (is_terminator (slice_index code.bytes at))) (OpenEnd at)
fault_of_end code None = None

-- of an entry of the jump table
abbrev pub fault_of_entry : Program → ℕ → Option CheckFault
fault_of_entry p entry = where_true (not (is_start p.code (slice_index p.table entry))) (BadEntry entry)

-- of the whole program
unfoldable pub found_in : Program → Option CheckFault
found_in p =
    where_true (not (is_start p.code 0)) NoFirst
    or_else first_below (length p.code.bytes) (fault_at p.code)
    or_else fault_of_end p.code (last_mark p.code (length p.code.bytes))
    or_else first_below (length p.table) (fault_of_entry p)
