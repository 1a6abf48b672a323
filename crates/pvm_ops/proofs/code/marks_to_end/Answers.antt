use Rattle.std.proofs.Common.{◌≡◌, ◌+◌, ◌-◌, ◌*◌, ◌/◌, length, ap, arith, ◌∙◌}
use Rattle.pvm_ops.specs.Listing.{Listing, bit_of}
use Rattle.pvm_ops.proofs.NextMark.{marks_with_ones}
use Rattle.pvm_ops.proofs.code.marks_to_end.Goals as goal

pub returns : goal.returns
returns c =
    let code : Listing = record { bytes = c.args.bytes.now; mask = c.args.mask.now } in
    let last = c.args.last in
    rw c.from.ensures (marks_with_ones code last c.window.result (length c.args.bytes.now - last) (omega arith) (omega arith)
    (λ j l. let there : 8 * (last / 8) + j ≡ last + j = omega arith in c.window.ensures.bits j l ∙ ap (bit_of c.args.mask.now) there))
