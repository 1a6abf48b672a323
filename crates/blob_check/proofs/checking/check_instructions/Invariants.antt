use Rattle.std.proofs.Common.{◌≡◌, None}
use Rattle.faults.specs.First.{first_below}
use Rattle.blob_check.specs.Finding.{fault_at}
use Rattle.blob_check.proofs.checking.check_instructions.Given as goal

abbrev pub invariant-loop-at : goal.invariant-loop-at
invariant-loop-at l = first_below l.at (fault_at l.code) ≡ None
