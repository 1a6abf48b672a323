use Rattle.std.proofs.Common.{arith, length}
use Rattle.std.specs.Prelude.{not, slice_index}
use Rattle.faults.proofs.Firsts.{found_fault}
use Rattle.blob_check.specs.Starts.{is_start}
use Rattle.blob_check.specs.declared.checking.CheckFault.TheVariants.{BadEntry}
use Rattle.blob_check.proofs.checking.check_table.Goals as goal

pub returns-then-not-is_start : goal.returns-then-not-is_start
returns-then-not-is_start c =
    let p = c.args.program.now in
    found_fault (λ entry. not (is_start p.code (slice_index p.table entry))) BadEntry (length p.table) c.loop-entry.entry (omega arith) c.loop-entry.invariant (cc)
