use Rattle.std.proofs.Common.{sym}
use Rattle.std.proofs.lemmas.Result.{err_from_is_err_and}
use Rattle.blob_check.proofs.Faults.{is_checked, check_of-none, check_of-some}
use Rattle.blob_check.proofs.checking.check.Goals as goal

pub returns-in_err-find_fault : goal.returns-in_err-find_fault
returns-in_err-find_fault c =
    let p = err_from_is_err_and c.from_residual.result c.from_residual.ensures.1 in
    rw (p.1, p.2) (sym (check_of-some c.args.program _ (sym c.in_err-find_fault.ensures)))

pub invariant_of-result : goal.invariant_of-result
invariant_of-result c = is_checked c.args.program (sym c.in_ok-find_fault.ensures)

pub returns : goal.returns
returns c = sym (check_of-none c.args.program (sym c.in_ok-find_fault.ensures))
