use Rattle.std.proofs.Common.{◌+◌, ◌∷◌, [], length, sym, ap, ◌∙◌, arith}
use Rattle.std.proofs.lemmas.List.{length-append}
use Rattle.transcript.specs.Grammar.{lines, replies_from, replies_of}
use Rattle.transcript.proofs.Words.{replies_have_words}
use Rattle.transcript.proofs.Reading.{replies_before, file_on, file_bad, file_end}
use Rattle.transcript.proofs.replies.Replies.read.Goals as goal

pub returns-in_default-clause-read : goal.returns-in_default-clause-read
returns-in_default-clause-read c =
    file_bad c.loop-rest.items.items c.loop-rest.number c.loop-rest.rest.now (replies_of c.args.bytes.now) c.loop-rest.invariant.read
    c.first_line.result.0.now c.first_line.result.1.now c.first_line.ensures.line (sym c.in_default.is ∙ c.in_ok-reply.ensures)

pub loop-rest-preserved : goal.loop-rest-preserved
loop-rest-preserved c =
    let more = c.in_ok-push.ensures in
    record {
      read =
          ap (λ l. replies_before l (replies_from (c.loop-rest.number + 1) (lines c.first_line.result.1.now))) more
          ∙ file_on c.loop-rest.items.items c.loop-rest.number c.loop-rest.rest.now (replies_of c.args.bytes.now) c.loop-rest.invariant.read
          c.first_line.result.0.now c.first_line.result.1.now c.in-Some.reply c.first_line.ensures.line (sym c.in-Some.is ∙ c.in_ok-reply.ensures);
      count = omega (arith, ap length more, length-append c.loop-rest.items.items (c.in-Some.reply ∷ []));
      within = omega (arith, c.first_line.ensures.shorter);
    }

pub returns-clause-read : goal.returns-clause-read
returns-clause-read c =
    file_end c.loop-rest.items.items c.loop-rest.number c.loop-rest.rest.now (replies_of c.args.bytes.now) c.loop-rest.invariant.read (grind arith)

pub returns-clause-words : goal.returns-clause-words
returns-clause-words c =
    replies_have_words (lines c.args.bytes.now) 1 c.loop-rest.items.items
    (file_end c.loop-rest.items.items c.loop-rest.number c.loop-rest.rest.now (replies_of c.args.bytes.now) c.loop-rest.invariant.read (grind arith))
