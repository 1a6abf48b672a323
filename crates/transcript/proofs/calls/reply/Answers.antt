use Rattle.std.proofs.Common.{◌≡◌, refl, arith}
use Rattle.transcript.proofs.Answering.{goes_on, bad_reply}
use Rattle.transcript.proofs.calls.reply.Goals as goal

pub returns-in-Ok : goal.returns-in-Ok
returns-in-Ok c = goes_on c.args.number c.args.replies.now c.args.given c.args.machine.now c.answer.new.outer _ (omega (arith, c.len.ensures, c.if-given-len.false, c.requires)) refl c.in-Ok.ensures

pub returns-in-Err : goal.returns-in-Err
returns-in-Err c = bad_reply c.args.number c.args.replies.now c.args.given c.args.machine.now c.answer.new.outer c.in-Err.address _ (omega (arith, c.len.ensures, c.if-given-len.false, c.requires)) refl c.in-Err.ensures
