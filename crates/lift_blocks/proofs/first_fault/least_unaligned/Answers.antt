use Rattle.std.proofs.Common.{◌≡◌, min, ap, ◌∙◌, get_or, arith}
use Rattle.std.proofs.lemmas.Option.{slice_get-get_or}
use Rattle.relocs.proofs.ByOffset.{at_zero}
use Rattle.lift_blocks.specs.FirstFault.{unaligned_offset}
use Rattle.lift_blocks.proofs.FirstFault.{aligned_more}
use Rattle.lift_blocks.proofs.first_fault.least_unaligned.Goals as goal

pub loop-relocation-preserved : goal.loop-relocation-preserved
loop-relocation-preserved c =
    let r = get_or c.args.row.now c.loop-relocation.relocation-index (at_zero 0) in
    let is : c.min-least.result ≡ min c.loop-relocation.least (unaligned_offset r) = c.min-least.ensures ∙ ap (λ n. min c.loop-relocation.least n) c.unaligned_offset.ensures in
    aligned_more c.args.row.now c.loop-relocation.relocation-index c.loop-relocation.least c.min-least.result r
    (slice_get-get_or c.args.row.now c.loop-relocation.relocation-index (at_zero 0) (omega arith)) c.loop-relocation.invariant is
