-- The files of a link in one buffer, each from the end of the one before to its own end.
use Rattle.std.specs.Prelude.{◌≡◌, ℕ, zero, suc, ◌+◌, ◌-◌, ◌≤◌, ◌^◌, List, [], ◌∷◌, take, drop, length}

-- the parts that end at these places, where the first begins at a start
unfoldable pub parts : ℕ → List ℕ → List ℕ → List (List ℕ)
parts start [] bytes = []
parts start (end ∷ ends) bytes = take (end - start) (drop start bytes) ∷ parts end ends bytes

-- how many bytes files have together
unfoldable pub total : List (List ℕ) → ℕ
total [] = 0
total (file ∷ files) = length file + total files

-- the ends rise by at most 2^24 each, from a start to a last end
abbrev pub Rise : ℕ → List ℕ → ℕ → Type 0
Rise start [] last = start ≡ last
Rise start (end ∷ ends) last = (start ≤ end) × (end ≤ start + 2 ^ 24) × Rise end ends last

-- what a bundle of files is kept in
pub record IsBundle (ends bytes : List ℕ) : Type 0 where
  pub few : length ends ≤ 1024
  pub small : length bytes ≤ 2 ^ 26
  pub rise : Rise 0 ends (length bytes)

-- where the part with a number begins
abbrev pub start_at : ℕ → List ℕ → ℕ → ℕ
start_at start ends zero = start
start_at start [] (suc at) = start
start_at start (end ∷ ends) (suc at) = start_at end ends at
