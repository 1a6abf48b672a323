-- What the arguments of the command `gen` ask for: a seed and a count.
use Rattle.std.specs.Prelude.{ℕ, ◌^◌, List, [], ◌∷◌, ◌==◌, if◌then◌else◌, Option, Some, None}
use Rattle.polkatool_cmd.specs.Values.{number_below}

-- A generation: of an object with `count` random words from a seed.
pub record GenerateCommand : Type 0 where
  pub seed : ℕ
  pub count : ℕ

-- the seed that an argument spells, below 2^64
abbrev pub seed_of : List ℕ → Option ℕ
seed_of word = number_below (2 ^ 64) word

-- a number that is not 0
abbrev pub positive : Option ℕ → Option ℕ
positive None = None
positive (Some n) = if n == 0 then None else Some n

-- the count that an argument spells, 1 to 1,000,000
abbrev pub count_of : List ℕ → Option ℕ
count_of word = positive (number_below 1000001 word)

-- the generation with a seed and a count
abbrev pub generate_with : Option ℕ → Option ℕ → Option GenerateCommand
generate_with None count = None
generate_with (Some seed) None = None
generate_with (Some seed) (Some count) = Some (record { seed = seed; count = count })

-- The generation that the arguments after `gen` ask for. None is a usage error.
abbrev pub generate_command_of : List (List ℕ) → Option GenerateCommand
generate_command_of (seed ∷ count ∷ []) = generate_with (seed_of seed) (count_of count)
generate_command_of words = None
