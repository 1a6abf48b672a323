use Rattle.std.proofs.Common.{◌≡◌, ℕ, ◌+◌, ◌-◌, ◌*◌, ◌/◌, ◌%◌, ◌^◌, ◌≤◌, length, ap, arith, subst, ◌∙◌}
use Rattle.pvm_ops.specs.Listing.{Listing, bit_of, HasMarks}
use Rattle.pvm_ops.proofs.NextMark.{shifted_marks, window_marks}
use Rattle.pvm_ops.proofs.code.Code.marks.Goals as goal

pub returns-then-at-self : goal.returns-then-at-self
returns-then-at-self c =
    let code = c.args.self.now in
    let at = c.args.at in
    let start = 8 * (at / 8) in
    let mask : c.self.inside.mask.now ≡ code.mask = ap (λ (l : Listing). l.mask) c.self.view_is in
    let bytes : length c.self.inside.bytes.now ≡ length code.bytes = ap (λ (l : Listing). length l.bytes) c.self.view_is in
    let inside : start + 32 ≤ length code.bytes = omega (arith, c.self.invariant.0, c.self.invariant.2, bytes, c.if-at-self.true) in
    let shift : at - start ≡ at % 8 = omega arith in
    let window : HasMarks code start c.inner_window.result 32 = window_marks code start c.inner_window.result 32 inside (λ j l. c.inner_window.ensures.bits j l ∙ ap (λ m. bit_of m (start + j)) mask) in
    rw c.from.ensures (subst (λ (k : ℕ). HasMarks code at (c.inner_window.result / 2 ^ k) 25) shift (shifted_marks code start at c.inner_window.result 32 25 (omega arith) (omega arith) window))

pub returns-else-at-self : goal.returns-else-at-self
returns-else-at-self c =
    let bytes : length c.self.inside.bytes.now ≡ length c.args.self.now.bytes = ap (λ (l : Listing). length l.bytes) c.self.view_is in
    let marks : HasMarks c.args.self.now c.self.inside.last c.self.inside.last_marks 64 = subst (λ (l : Listing). HasMarks l c.self.inside.last c.self.inside.last_marks 64) c.self.view_is c.self.invariant.3 in
    shifted_marks c.args.self.now c.self.inside.last c.args.at c.self.inside.last_marks 64 25 (omega (arith, c.self.invariant.2)) (omega (arith, c.self.invariant.0, c.self.invariant.2, bytes)) marks
