use Rattle.std.proofs.Common.{◌≡◌, None}
use Rattle.faults.specs.First.{first_below}
use Rattle.blob_check.specs.Finding.{fault_of_entry}
use Rattle.blob_check.proofs.checking.check_table.Given as goal

abbrev pub invariant-loop-entry : goal.invariant-loop-entry
invariant-loop-entry l = first_below l.entry (fault_of_entry l.program) ≡ None
