-- Marks at places, and what is chosen by marks.
use Rattle.std.specs.Prelude.{ℕ, suc, List, [], ◌∷◌, fold, Bool, ◌||◌, cond}
use Rattle.relocs.specs.Places.{CodePlace, same_place}

-- marks at places, with one at this place
abbrev pub with_mark : List CodePlace → List Bool → CodePlace → List Bool
with_mark [] marks p = []
with_mark (q ∷ qs) [] p = []
with_mark (q ∷ qs) (b ∷ bs) p = (b || same_place q p) ∷ with_mark qs bs p

-- with one at each of these places
abbrev pub with_marks : List CodePlace → List Bool → List CodePlace → List Bool
with_marks places marks these = fold (with_mark places) marks these

-- the elements that are marked
abbrev pub chosen : {X : Type 0} → List Bool → List X → List X
chosen [] xs = []
chosen (b ∷ bs) [] = []
chosen (b ∷ bs) (x ∷ xs) = cond b (x ∷ chosen bs xs) (chosen bs xs)

-- for each mark, how many marked ones are before it, counted from a number
abbrev pub counts_from : ℕ → List Bool → List ℕ
counts_from n [] = []
counts_from n (b ∷ bs) = n ∷ counts_from (cond b (suc n) n) bs
