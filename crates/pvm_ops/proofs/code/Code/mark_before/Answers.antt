use Rattle.std.proofs.Common.{◌≡◌, ◌+◌, ◌-◌, ◌*◌, ap, arith, ◌∙◌}
use Rattle.pvm_ops.specs.Listing.{bit_of}
use Rattle.pvm_ops.proofs.LastMark.{Highest, behind, no_mark, a_mark}
use Rattle.pvm_ops.proofs.code.Code.mark_before.Goals as goal

pub returns-then-back-lt-REACH : goal.returns-then-back-lt-REACH
returns-then-back-lt-REACH c =
    let code = c.args.self.now in
    let last = c.args.at - 1 in
    let start = c.saturating_sub-start.result in
    let marks = c.window-marks.result in
    let top = last - 8 * start in
    let back = c.from-back.result in
    let mask : c.self.inside.mask.now ≡ code.mask = cc in
    let before = behind code last start marks (omega arith) (omega arith) (λ j l. c.window-marks.ensures.bits j l ∙ ap (λ m. bit_of m (8 * start + j)) mask) in
    let first : Highest marks top back = rw c.from-back.ensures (record { unset = c.unset_from.ensures.unset; set = c.unset_from.ensures.set }) in
    (omega (arith, first.set (omega arith)), omega arith, a_mark code last marks top back before first (omega arith), λ p after less. no_mark code last marks top back before first p (omega arith) (omega arith) (omega arith))

pub returns-else-back-lt-REACH : goal.returns-else-back-lt-REACH
returns-else-back-lt-REACH c =
    let code = c.args.self.now in
    let last = c.args.at - 1 in
    let start = c.saturating_sub-start.result in
    let marks = c.window-marks.result in
    let top = last - 8 * start in
    let back = c.from-back.result in
    let mask : c.self.inside.mask.now ≡ code.mask = cc in
    let before = behind code last start marks (omega arith) (omega arith) (λ j l. c.window-marks.ensures.bits j l ∙ ap (λ m. bit_of m (8 * start + j)) mask) in
    let first : Highest marks top back = rw c.from-back.ensures (record { unset = c.unset_from.ensures.unset; set = c.unset_from.ensures.set }) in
    λ p less near. no_mark code last marks top back before first p (omega arith) (omega arith) (omega arith)
