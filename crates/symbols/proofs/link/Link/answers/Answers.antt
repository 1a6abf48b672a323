use Rattle.std.proofs.Common.{◌≤◌, length, arith}
use Rattle.std.proofs.lemmas.List.{take_all}
use Rattle.symbols.specs.Wanted.{given_of}
use Rattle.symbols.proofs.Answering.{HasAnswersAmong-next, HasAnswers-all}
use Rattle.symbols.proofs.link.Link.answers.Goals as goal

pub loop-at-preserved : goal.loop-at-preserved
loop-at-preserved c =
    HasAnswersAmong-next (given_of c.args.self.now.objects.now c.args.self.now.wanted.now) c.args.self.now.names c.loop-at.at c.name.result.now c.loop-at.answers _ c.name.ensures c.loop-at.invariant c.in_ok-add_answer.ensures

pub returns : goal.returns
returns c =
    let given = given_of c.args.self.now.objects.now c.args.self.now.wanted.now in
    let names = c.args.self.now.names in
    let all : length names ≤ c.loop-at.at = omega arith in
    HasAnswers-all given names c.loop-at.answers c.args.self.now.meanings (rw (take_all c.loop-at.at names all) at c.loop-at.invariant)
