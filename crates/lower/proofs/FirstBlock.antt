-- The first block of a list ends before the next mark.
use Rattle.std.proofs.Common.{◌≡◌, ℕ, zero, suc, ◌+◌, ◌-◌, ◌<◌, ◌≤◌, Bool, true, false, List, [], ◌∷◌, length, get_or, take, drop, refl, ap, ◌∙◌, arith}
use Rattle.std.specs.Prelude.{slice_range}
use Rattle.std.proofs.lemmas.List.{get_or-drop, drop-drop, length-drop}
use Rattle.runs.specs.Blocks.{begins_first, in_first, with_first, blocks}

-- whether a block begins with the first mark, or there is none
pub begins_is : (bs : List Bool) → begins_first bs ≡ get_or bs 0 true
begins_is [] = refl
begins_is (b ∷ bs) = refl

-- the first block, where the next mark is the n-th after the first
first_block : {A : Type 0} (bs : List Bool) (xs : List A) (n : ℕ) → length bs ≡ length xs → n < length xs → ((k : ℕ) → k < n → get_or bs (suc k) true ≡ false) → get_or bs (suc n) true ≡ true → blocks bs xs ≡ take (suc n) xs ∷ blocks (drop (suc n) bs) (drop (suc n) xs)
first_block [] [] n same lt others last = absurd (omega arith)
first_block [] (x ∷ xs) n same lt others last = absurd (omega arith)
first_block (b ∷ bs) [] n same lt others last = absurd (omega arith)
first_block (b ∷ bs) (x ∷ xs) zero same lt others last = ap (λ m. with_first m x (blocks bs xs)) (begins_is bs ∙ last)
first_block (b ∷ bs) (x ∷ xs) (suc n) same lt others last =
    ap (λ m. with_first m x (blocks bs xs)) (begins_is bs ∙ others 0 (omega arith))
    ∙ ap (in_first x) (first_block bs xs n (omega arith) (omega arith) (λ k h. others (suc k) (omega arith)) last)

-- the block that begins at a mark
pub block_at : {A : Type 0} (bs : List Bool) (xs : List A) (from to : ℕ) → length bs ≡ length xs → from < to → to ≤ length xs → ((k : ℕ) → from < k → k < to → get_or bs k true ≡ false) → get_or bs to true ≡ true → blocks (drop from bs) (drop from xs) ≡ slice_range xs from to ∷ blocks (drop to bs) (drop to xs)
block_at {A} bs xs from to same lt le others last =
    let n : ℕ = to - from - 1 in
    let there : from + suc n ≡ to = omega arith in
    let size : suc n ≡ to - from = omega arith in
    let marks : length (drop from bs) ≡ length (drop from xs) = omega (arith, length-drop from bs, length-drop from xs) in
    let within : n < length (drop from xs) = omega (arith, length-drop from xs) in
    let rest_marks : drop (suc n) (drop from bs) ≡ drop to bs = drop-drop (suc n) from bs ∙ ap (λ m. drop m bs) there in
    let rest : drop (suc n) (drop from xs) ≡ drop to xs = drop-drop (suc n) from xs ∙ ap (λ m. drop m xs) there in
    first_block (drop from bs) (drop from xs) n marks within
    (λ k h. get_or-drop from bs (suc k) true ∙ others (from + suc k) (omega arith) (omega arith))
    (get_or-drop from bs (suc n) true ∙ ap (λ i. get_or bs i true) there ∙ last)
    ∙ ap (λ m. take m (drop from xs) ∷ blocks (drop (suc n) (drop from bs)) (drop (suc n) (drop from xs))) size
    ∙ ap (λ ys. take (to - from) (drop from xs) ∷ blocks ys (drop (suc n) (drop from xs))) rest_marks
    ∙ ap (λ ys. take (to - from) (drop from xs) ∷ blocks (drop to bs) ys) rest
