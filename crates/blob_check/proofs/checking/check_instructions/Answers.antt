use Rattle.std.proofs.Common.{arith, length}
use Rattle.std.proofs.lemmas.Result.{err_from_is_err_and}
use Rattle.faults.proofs.Firsts.{found_first}
use Rattle.blob_check.specs.Finding.{fault_at}
use Rattle.blob_check.proofs.checking.check_instructions.Goals as goal

pub returns-in_err-check_instruction : goal.returns-in_err-check_instruction
returns-in_err-check_instruction c =
    let p = err_from_is_err_and c.from_residual.result c.from_residual.ensures.1 in
    let code = c.args.code.now in
    rw (p.1, p.2) (found_first (fault_at code) (length code.bytes) c.loop-at.at _ (omega arith) c.loop-at.invariant c.in_err-check_instruction.ensures)
