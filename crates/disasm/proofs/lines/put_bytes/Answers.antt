use Rattle.std.proofs.Common.{take, drop, ◌∙◌, arith, refl}
use Rattle.std.proofs.lemmas.Result.{err_from_is_err_and}
use Rattle.disasm.specs.Digits.{hex}
use Rattle.disasm.proofs.Adding.{Adds-more, Adds-stopped}
use Rattle.disasm.proofs.Texts.{hex-more, hex-rest}
use Rattle.disasm.proofs.lines.put_bytes.Goals as goal

pub returns-in_err-make_room-clause-err : goal.returns-in_err-make_room-clause-err
returns-in_err-make_room-clause-err g c =
    let p = err_from_is_err_and c.from_residual.result c.from_residual.ensures.1 in
    let at = c.loop-at.at in
    let bytes = c.args.bytes.now in
    rw p.1 (Adds-stopped _ _ _ c.args.text.now.bytes c.loop-at.text.bytes (hex (take at bytes)) (hex (drop at bytes)) (hex bytes) c.loop-at.invariant.put c.in_err-make_room.ensures.err (hex-rest bytes at))

pub loop-at-preserved : goal.loop-at-preserved
loop-at-preserved g c =
    let at = c.loop-at.at in
    let bytes = c.args.bytes.now in
    record {
      put = Adds-more _ _ _ c.args.text.now.bytes c.loop-at.text.bytes c.make_room.new.text.bytes c.push_byte.new.text.bytes (hex (take at bytes)) _ _ c.loop-at.invariant.put c.in_ok-make_room.ensures.ok c.push_byte.ensures.text (hex-more bytes at _ (omega arith) refl);
      faults = c.in_ok-make_room.ensures.cause.kept ∙ c.loop-at.invariant.faults;
    }
