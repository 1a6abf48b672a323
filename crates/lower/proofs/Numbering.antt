-- The number of an operation's block is that of the one before, and one more where a block begins.
use Rattle.std.proofs.Common.{◌≡◌, ℕ, zero, suc, ◌+◌, ◌-◌, ◌<◌, ◌≤◌, Bool, List, [], ◌∷◌, Some, refl, arith}
use Rattle.std.specs.Prelude.{slice_get, cond}
use Rattle.runs.specs.Blocks.{block_of}

-- the first is in the first block
pub block_of_first : (bs : List Bool) → block_of bs 0 ≡ 0
block_of_first [] = refl
block_of_first (b ∷ bs) = refl

-- before the first there is none
pub block_of_none : (bs : List Bool) (at : ℕ) → at ≤ 0 → block_of bs (at - 1) ≡ block_of bs at
block_of_none bs zero none = refl
block_of_none bs (suc at) none = absurd (omega arith)

-- the next
block_of_next : (bs : List Bool) (t : ℕ) (m : Bool) → slice_get bs (suc t) ≡ Some m → block_of bs (suc t) ≡ block_of bs t + cond m 1 0
block_of_next [] t m e = absurd cc
block_of_next (b ∷ []) t m e = absurd cc
block_of_next (b ∷ c ∷ bs) zero m e =
    let same : c ≡ m = cc in
    rw same (omega arith)
block_of_next (b ∷ c ∷ bs) (suc t) m e =
    let more : block_of (c ∷ bs) (suc t) ≡ block_of (c ∷ bs) t + cond m 1 0 = block_of_next (c ∷ bs) t m e in
    omega (arith, more)

-- the one at a place after the first
pub block_of_at : (bs : List Bool) (at : ℕ) (m : Bool) → 0 < at → slice_get bs at ≡ Some m → block_of bs at ≡ block_of bs (at - 1) + cond m 1 0
block_of_at bs zero m some e = absurd (omega arith)
block_of_at bs (suc at) m some e = let same : suc at - 1 ≡ at = omega arith in rw same (block_of_next bs at m e)
