use Rattle.std.proofs.Common.{take}
use Rattle.symbols.specs.Wanted.{given_of}
use Rattle.symbols.specs.Rows.{HasAnswersAmong}
use Rattle.symbols.proofs.link.Link.answers.Given as goal

abbrev pub invariant-loop-at : goal.invariant-loop-at
invariant-loop-at l = HasAnswersAmong (given_of l.self.objects.now l.self.wanted.now) (take l.at l.self.names) l.answers
