-- What a checked program is: each instruction has a known opcode and leads to where a block starts (JAM Gray Paper
-- 0.7.0, appendix A.3), the last one ends a block, and blocks start where the jump table says.
use Rattle.std.specs.Prelude.{◌≡◌, ℕ, zero, suc, List, [], length, slice_index, Bool, false, not, cond, if◌then◌else◌, Option, Some, None, Result, Ok, Err}
use Rattle.numbers.specs.Words.{sum_64}
use Rattle.faults.specs.Present.{broken, ◌followed_by◌, each_below, first_in}
use Rattle.pvm_ops.specs.Listing.{Listing, is_marked}
use Rattle.pvm_ops.specs.Opcodes.{is_known, form_of}
use Rattle.pvm_ops.specs.Fetch.{fetch_of}
use Rattle.pvm_ops.specs.Offsets.{has_offset, offset_of}
use Rattle.blob_codec.specs.Grammar.{Program}
use Rattle.blob_check.specs.Starts.{is_start, is_terminator}
use Rattle.blob_check.specs.declared.checking.CheckFault.{CheckFault}
use Rattle.blob_check.specs.declared.checking.CheckFault.TheVariants.{NoFirst, UnknownOpcode, BadTarget, BadEntry, OpenEnd}

-- where the instruction at a position leads, if it has an offset: that far from its own position, modulo 2^64
abbrev pub target_of : Listing → ℕ → Option ℕ
target_of code at =
    let i = (fetch_of code at).instr in
    if has_offset (form_of i.op) then Some (sum_64 at (offset_of (form_of i.op) i)) else None

-- there is a position, and no block starts at it
abbrev pub is_no_start : Listing → Option ℕ → Bool
is_no_start code (Some at) = not (is_start code at)
is_no_start code None = false

-- the last marked position below a number
unfoldable pub last_mark : Listing → ℕ → Option ℕ
last_mark code zero = None
last_mark code (suc n) = if is_marked code n then Some n else last_mark code n

-- the faults at a position, where an instruction is marked at it
abbrev pub faults_at : Listing → ℕ → List CheckFault
faults_at code at =
    cond (is_marked code at)
    (broken (not (is_known (slice_index code.bytes at))) (UnknownOpcode at)
    followed_by broken (is_no_start code (target_of code at)) (BadTarget at))
    []

-- the fault of an open end: the last marked position, if its instruction does not end a block
abbrev pub faults_of_end : Listing → Option ℕ → List CheckFault
faults_of_end code (Some at) = broken (not (is_terminator (slice_index code.bytes at))) (OpenEnd at)
faults_of_end code None = []

-- the fault of an entry of the jump table
abbrev pub faults_of_entry : Program → ℕ → List CheckFault
faults_of_entry p entry = broken (not (is_start p.code (slice_index p.table entry))) (BadEntry entry)

-- all faults of a program, in the order in which they are reported
abbrev pub faults_of : Program → List CheckFault
faults_of p =
    broken (not (is_start p.code 0)) NoFirst
    followed_by each_below (length p.code.bytes) (faults_at p.code)
    followed_by faults_of_end p.code (last_mark p.code (length p.code.bytes))
    followed_by each_below (length p.table) (faults_of_entry p)

-- a program without a fault
abbrev pub IsChecked : Program → Type 0
IsChecked p = faults_of p ≡ []

-- the program, unless there is a fault
abbrev pub unless_faulty : Program → Option CheckFault → Result Program CheckFault
unless_faulty p None = Ok p
unless_faulty p (Some fault) = Err fault

-- what a check answers: the program, or the first of its faults
abbrev pub check_of : Program → Result Program CheckFault
check_of p = unless_faulty p (first_in (faults_of p))
