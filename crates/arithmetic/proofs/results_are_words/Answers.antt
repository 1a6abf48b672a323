use Rattle.arithmetic.proofs.results_are_words.Goals as goal
use Rattle.arithmetic.proofs.Results.{results_are_words}

pub returns : goal.returns
returns c = results_are_words
