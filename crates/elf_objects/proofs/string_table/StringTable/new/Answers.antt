use Rattle.std.proofs.Common.{◌≡◌, ◌<◌, ◌-◌, arith, get_or}
use Rattle.elf_objects.proofs.LastZero.{no_name-past, no_name-back, ends_here}
use Rattle.elf_objects.proofs.string_table.StringTable.new.Goals as goal
use Rattle.elf_objects.proofs.string_table.StringTable.new.Goals.{then-loop-end-test+else-bytes-end-ne0, else-loop-end-test}

pub loop-end-init : goal.loop-end-init
loop-end-init c = (omega arith, no_name-past c.args.bytes.now)

pub loop-end-preserved : goal.loop-end-preserved
loop-end-preserved c =
    (omega arith, no_name-back _ c.loop-end.end (omega arith) c.loop-end.invariant.0 c.if-bytes-end-ne0.true c.loop-end.invariant.1)

pub invariant_of-result : goal.invariant_of-result
invariant_of-result c =
    let last : 0 < c.loop-end.end → get_or c.args.bytes.now (c.loop-end.end - 1) 0 ≡ 0 =
    λ pos. elim c.loop-end-test.branch [ then-loop-end-test+else-bytes-end-ne0 w ↦ omega arith | else-loop-end-test w ↦ absurd (omega arith) ] in
    record { ends = ends_here _ c.loop-end.end c.loop-end.invariant.0 c.loop-end.invariant.1 last }
