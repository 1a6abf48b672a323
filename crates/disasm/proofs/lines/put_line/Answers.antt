use Rattle.std.proofs.Common.{◌++◌, [], refl}
use Rattle.std.specs.Prelude.{codes}
use Rattle.std.specs.List.{slice_range}
use Rattle.std.proofs.lemmas.Result.{err_from_is_err_and}
use Rattle.disasm.specs.Digits.{hex, hex_digits}
use Rattle.disasm.specs.Disassembly.{end_of, instruction, line}
use Rattle.outside.proofs.Prefixes.{AppendsPrefix-longer}
use Rattle.disasm.proofs.Adding.{Adds-kept, Adds-more, Adds-trans, Adds-failed, Adds-stopped}
use Rattle.disasm.proofs.lines.put_line.Goals as goal

pub returns-in_err-make_room-clause-err : goal.returns-in_err-make_room-clause-err
returns-in_err-make_room-clause-err g c =
    let p = err_from_is_err_and c.from_residual.result c.from_residual.ensures.1 in
    rw p.1 (AppendsPrefix-longer _ _ c.args.text.now.bytes (line c.args.code.now c.args.at) c.in_err-make_room.ensures.err)

pub returns-in_err-put_bytes-clause-err : goal.returns-in_err-put_bytes-clause-err
unfolding line
returns-in_err-put_bytes-clause-err g c =
    let p = err_from_is_err_and c.from_residual-in_err-put_bytes.result c.from_residual-in_err-put_bytes.ensures.1 in
    let code = c.args.code.now in
    let at = c.args.at in
    let first = hex_digits 8 at ++ codes " " in
    let digits = hex (slice_range code.bytes at (end_of code at)) in
    let last = instruction code at ++ codes "\n" in
    let position = Adds-kept _ _ c.args.text.now.bytes c.make_room.new.text.bytes c.push_position.new.text.bytes [] first c.in_ok-make_room.ensures.ok c.push_position.ensures in
    rw p.1 (Adds-failed _ _ _ c.args.text.now.bytes c.push_position.new.text.bytes first digits last _ position (rw c.bytes_of.ensures at c.in_err-put_bytes.ensures.err) refl)

pub returns-in_err-make_room-2-clause-err : goal.returns-in_err-make_room-2-clause-err
unfolding line
returns-in_err-make_room-2-clause-err g c =
    let p = err_from_is_err_and c.from_residual-in_err-make_room-2.result c.from_residual-in_err-make_room-2.ensures.1 in
    let code = c.args.code.now in
    let at = c.args.at in
    let first = hex_digits 8 at ++ codes " " in
    let digits = hex (slice_range code.bytes at (end_of code at)) in
    let last = instruction code at ++ codes "\n" in
    let position = Adds-kept _ _ c.args.text.now.bytes c.make_room.new.text.bytes c.push_position.new.text.bytes [] first c.in_ok-make_room.ensures.ok c.push_position.ensures in
    let bytes = Adds-trans _ _ _ c.args.text.now.bytes c.push_position.new.text.bytes c.put_bytes.new.text.bytes first digits position (rw c.bytes_of.ensures at c.in_ok-put_bytes.ensures.ok) in
    rw p.1 (Adds-stopped _ _ _ c.args.text.now.bytes c.put_bytes.new.text.bytes (first ++ digits) last _ bytes c.in_err-make_room-2.ensures.err refl)

pub returns-clause-ok : goal.returns-clause-ok
unfolding line
returns-clause-ok g c =
    let code = c.args.code.now in
    let at = c.args.at in
    let first = hex_digits 8 at ++ codes " " in
    let digits = hex (slice_range code.bytes at (end_of code at)) in
    let last = instruction code at ++ codes "\n" in
    let position = Adds-kept _ _ c.args.text.now.bytes c.make_room.new.text.bytes c.push_position.new.text.bytes [] first c.in_ok-make_room.ensures.ok c.push_position.ensures in
    let bytes = Adds-trans _ _ _ c.args.text.now.bytes c.push_position.new.text.bytes c.put_bytes.new.text.bytes first digits position (rw c.bytes_of.ensures at c.in_ok-put_bytes.ensures.ok) in
    Adds-more _ _ _ c.args.text.now.bytes c.put_bytes.new.text.bytes c.make_room-2.new.text.bytes c.push_end.new.text.bytes (first ++ digits) last _ bytes c.in_ok-make_room-2.ensures.ok c.push_end.ensures refl
