use Rattle.symbols.proofs.Within as lemma
use Rattle.symbols.proofs.places_are_within.Goals as goal

pub returns : goal.returns
returns c = lemma.all_within
