use Rattle.std.proofs.Common.{◌≤◌, ◌<◌, length, sym, arith}
use Rattle.hex.proofs.HexLemmas.{decode_of-ok}
use Rattle.transcript.proofs.Reading.{piece_of-more}
use Rattle.transcript.proofs.replies.Piece.read.Goals as goal

pub returns-in-Some-more : goal.returns-in-Some-more
returns-in-Some-more c =
    sym (piece_of-more c.args.word.now c.first_part.result.0.now c.first_part-2.result.0.now c.in-Some.rest.now c.in-Some-more.field-0.now
    (rw c.in-Some.is at c.first_part.ensures.parts) (rw c.in-Some-more.is at c.first_part-2.ensures.parts))

pub new-requires : goal.new-requires
new-requires c =
    let long = decode_of-ok c.first_part-2.result.0.now c.in-Ok.bytes.items c.in-Ok.ensures.ok in
    let short : length c.first_part-2.result.0.now ≤ length c.in-Some.rest.now = c.first_part-2.ensures.short in
    let rest : length c.in-Some.rest.now < length c.args.word.now = rw c.in-Some.is at c.first_part.ensures.shorter in
    omega (arith, long.2)
