-- The items of words, one at a time.
use Rattle.std.proofs.Common.{◌≡◌, ℕ, ◌≤◌, List, [], ◌∷◌, length, true, false, cond, Option, Some, None, refl, ap, ◌∙◌, arith}
use Rattle.std.specs.List.{filter_map, cons_option}
use Rattle.polkatool_cmd.specs.Values.{begins_with_dash}
use Rattle.polkatool_cmd.specs.Items.{Item, Setting, Unvalued, File, items}

-- no words
pub items-end : (words : List (List ℕ)) → length words ≡ 0 → items words ≡ []
unfolding items
items-end [] none = refl
items-end (word ∷ rest) none = absurd (omega (arith, none))

file_first : (word : List ℕ) (rest : List (List ℕ)) → begins_with_dash word ≡ false → items (word ∷ rest) ≡ File word ∷ items rest
unfolding items
file_first word [] other = ap (λ dash. cond dash (Unvalued word) (File word) ∷ []) other
file_first word (next ∷ rest) other =
    ap (λ dash. cond dash (Setting word next ∷ items rest) (File word ∷ items (next ∷ rest))) other

-- a word that names a file
pub items-file :
    (words rest : List (List ℕ)) (word : List ℕ) → words ≡ word ∷ rest → begins_with_dash word ≡ false
    → items words ≡ File word ∷ items rest
items-file words rest word is other = ap items is ∙ file_first word rest other

alone_first : (word : List ℕ) → begins_with_dash word ≡ true → items (word ∷ []) ≡ Unvalued word ∷ items []
unfolding items
alone_first word dash = ap (λ d. cond d (Unvalued word) (File word) ∷ []) dash

-- an option without a value
pub items-unvalued :
    (words rest : List (List ℕ)) (word : List ℕ) → words ≡ word ∷ rest → length rest ≡ 0 → begins_with_dash word ≡ true
    → items words ≡ Unvalued word ∷ items rest
items-unvalued words [] word is none dash = ap items is ∙ alone_first word dash
items-unvalued words (next ∷ rest) word is none dash = absurd (omega (arith, none))

setting_first :
    (word value : List ℕ) (after : List (List ℕ)) → begins_with_dash word ≡ true
    → items (word ∷ value ∷ after) ≡ Setting word value ∷ items after
unfolding items
setting_first word value after dash =
    ap (λ d. cond d (Setting word value ∷ items after) (File word ∷ items (value ∷ after))) dash

-- an option with its value
pub items-setting :
    (words rest after : List (List ℕ)) (word value : List ℕ) → words ≡ word ∷ rest → rest ≡ value ∷ after
    → begins_with_dash word ≡ true → items words ≡ Setting word value ∷ items after
items-setting words rest after word value is more dash =
    ap items is ∙ ap (λ r. items (word ∷ r)) more ∙ setting_first word value after dash

-- there are no more items than words
items_within : (words : List (List ℕ)) → length (items words) ≤ length words
unfolding items
items_within [] = omega arith
items_within (word ∷ []) = omega arith
items_within (word ∷ next ∷ rest) =
    elim (begins_with_dash word) as (λ dash. length (cond dash (Setting word next ∷ items rest) (File word ∷ items (next ∷ rest))) ≤ length (word ∷ next ∷ rest)) [
      | true ↦ omega (arith, items_within rest)
      | false ↦ omega (arith, items_within (next ∷ rest))
    ]

filter_map_within : {A : Type 0} (read : Item → Option A) (found : List Item) → length (filter_map read found) ≤ length found
filter_map_within read [] = omega arith
filter_map_within read (item ∷ found) =
    elim (read item) as (λ r. length (cons_option r (filter_map read found)) ≤ length (item ∷ found)) [
      | None ↦ omega (arith, filter_map_within read found)
      | Some value ↦ omega (arith, filter_map_within read found)
    ]

-- nor are there more of a kind
pub kind_within : {A : Type 0} (read : Item → Option A) (words : List (List ℕ)) → length (filter_map read (items words)) ≤ length words
kind_within read words = omega (arith, filter_map_within read (items words), items_within words)
