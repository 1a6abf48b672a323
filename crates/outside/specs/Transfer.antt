-- What a reader gives.
use Rattle.std.specs.Prelude.{◌≡◌, ℕ, ◌≤◌, List, ◌++◌, length, Option}
use Rattle.std.specs.Io.KnownBytes.{Consumes}

-- what the reader gave was appended
abbrev pub Takes : Option (List ℕ) → Option (List ℕ) → List ℕ → List ℕ → Type 0
Takes before after old new = (part : List ℕ) × (new ≡ old ++ part) × Consumes before after part

-- the reader gave at most this number of bytes
abbrev pub TakesAtMost : ℕ → Option (List ℕ) → Option (List ℕ) → Type 0
TakesAtMost most before after = (part : List ℕ) × (length part ≤ most) × Consumes before after part
