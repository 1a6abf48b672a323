-- Text that is put in large pieces: what was added and isn't put yet is kept.
use Rattle.std.specs.Prelude.{◌≡◌, ℕ, List, ◌++◌, Option}
use Rattle.std.specs.Io.KnownBytes.{Appends}

-- a text was added after what was kept: a prefix of both was put, and the rest is kept
abbrev pub Adds : Option (List ℕ) → Option (List ℕ) → List ℕ → List ℕ → List ℕ → Type 0
Adds old new kept left text = (front : List ℕ) × Appends old new front × (kept ++ text ≡ front ++ left)
