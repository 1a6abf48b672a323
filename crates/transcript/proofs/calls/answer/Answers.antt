use Rattle.transcript.proofs.Answering.{done, panics, lacks, not_mine, fails}
use Rattle.transcript.proofs.calls.answer.Goals as goal

pub returns-in-Done : goal.returns-in-Done
returns-in-Done c = done c.args.number c.args.replies.now c.args.given c.args.machine.now c.args.nest.now c.serve.new.self c.serve.new.outer c.requires c.in-Done.ensures.leaves

pub returns-in-Panic : goal.returns-in-Panic
returns-in-Panic c = panics c.args.number c.args.replies.now c.args.given c.args.machine.now c.args.nest.now c.serve.new.self c.serve.new.outer c.calls_panic.ensures c.in-Panic.ensures.leaves

pub returns-in-OutOfGas : goal.returns-in-OutOfGas
returns-in-OutOfGas c = lacks c.args.number c.args.replies.now c.args.given c.args.machine.now c.args.nest.now c.serve.new.self c.serve.new.outer c.in-OutOfGas.ensures.leaves

pub returns-in-NotMine : goal.returns-in-NotMine
returns-in-NotMine c =
    not_mine c.args.number c.args.replies.now c.args.given c.args.machine.now c.args.nest.now c.serve.new.self c.serve.new.outer c.reply.new.machine c.reply.result c.in-NotMine.ensures.leaves
    c.reply.ensures
