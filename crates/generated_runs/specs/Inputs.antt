-- What the link of a generated object is given.
use Rattle.std.specs.Prelude.{ℕ, List, [], ◌∷◌, codes}
use Rattle.symbols.specs.Wanted.{Wanted, Given}
use Rattle.generated.specs.Objects.{generated}
use Rattle.generated.specs.Spelled.{generated_object}

-- the one file: the generated object
abbrev pub files_of : ℕ → ℕ → List (List ℕ)
files_of seed count = generated seed count ∷ []

-- what is wanted: the entry `main`, no import, and a stack of this size
abbrev pub wanted_with : ℕ → Wanted
wanted_with stack = record { entries = codes "main" ∷ []; imports = []; stack = stack }

-- the link's input
abbrev pub given_of : ℕ → ℕ → ℕ → Given
given_of seed count stack = record { objects = generated_object seed count ∷ []; wanted = wanted_with stack }
