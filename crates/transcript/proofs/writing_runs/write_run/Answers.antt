use Rattle.std.proofs.Common.{◌≡◌}
use Rattle.std.proofs.lemmas.Result.{err_from_is_err_and}
use Rattle.transcript.specs.declared.writing_runs.WriteRunFault.TheVariants as fault
use Rattle.transcript.proofs.Looping.{last_not_seen}
use Rattle.transcript.proofs.writing_runs.write_run.Goals as goal

pub returns-in_err-end_lines : goal.returns-in_err-end_lines
returns-in_err-end_lines g c =
    let p = err_from_is_err_and c.from_residual-in_err-end_lines.result c.from_residual-in_err-end_lines.ensures.1 in
    let failed : p.0 ≡ fault.Failed = p.2 in
    rw (p.1, failed) (last_not_seen _ _ _ _ _ _ c.in_ok-end.ensures c.in_err-end_lines.ensures.err c.in_err-end_lines.ensures.cause.failed)
