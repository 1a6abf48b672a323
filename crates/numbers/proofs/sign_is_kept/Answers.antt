use Rattle.numbers.proofs.WordsLaws.{sign_extend-mod}
use Rattle.numbers.proofs.sign_is_kept.Goals as goal

pub returns : goal.returns
returns c = sign_extend-mod
