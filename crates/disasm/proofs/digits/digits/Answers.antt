use Rattle.std.proofs.Common.{refl, ◌∙◌, sym, subst, arith}
use Rattle.std.specs.Str.{IsAscii}
use Rattle.disasm.proofs.Hex.{written_if_ok, digits_are, digits_are_ascii}
use Rattle.disasm.proofs.digits.digits.Goals as goal

pub returns-clause-value : goal.returns-clause-value
returns-clause-value c =
    let call = c.encode_to_slice-fits.ensures in
    written_if_ok _ (call.fits.1 refl) call.written ∙ digits_are c.args.byte c.ranges.byte.fits

pub returns-clause-ascii : goal.returns-clause-ascii
returns-clause-ascii c =
    let call = c.encode_to_slice-fits.ensures in
    subst IsAscii (sym (written_if_ok _ (call.fits.1 refl) call.written ∙ digits_are c.args.byte c.ranges.byte.fits)) (digits_are_ascii c.args.byte (omega arith))
