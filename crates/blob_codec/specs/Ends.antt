-- What the ends of bytes say of all of them.
use Rattle.std.specs.Prelude.{◌≡◌, ℕ, ◌-◌, ◌<◌, List, length, take, slice_index}

-- how many bytes the counts of a program and its width take at most: each count is a natural of nine bytes or fewer
abbrev pub most_counts : ℕ
most_counts = 19

-- these are the first of the bytes, up to `most_counts`, so many they are, and this is the last of them
pub record EndsAre (first : List ℕ) (len last : ℕ) (bytes : List ℕ) : Type 0 where
  pub begins : first ≡ take most_counts bytes
  pub counted : length bytes ≡ len
  pub ends : 0 < len → slice_index bytes (len - 1) ≡ last
