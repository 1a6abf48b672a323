-- The laws of operations on words that contracts name.
use Rattle.std.specs.Prelude.{ℕ, ◌<◌, ◌^◌}
use Rattle.arithmetic.specs.Operations.{binary}
use Rattle.arithmetic.specs.declared.operations.Binary.{Binary}

-- what an operation on two words gives is a word
abbrev pub ResultsAreWords : Type 0
ResultsAreWords = (f : Binary) (a b : ℕ) → a < 2 ^ 64 → b < 2 ^ 64 → binary f a b < 2 ^ 64
