-- Bytes that are put in the place of others.
use Rattle.std.proofs.Common.{◌≡◌, ℕ, ◌+◌, ◌≤◌, List, [], ◌∷◌, ◌++◌, length, take, drop, refl, sym, ◌∙◌, arith, slice_set, append_assoc}
use Rattle.std.proofs.lemmas.Grind.{common_steps}
use Rattle.std.proofs.lemmas.List.{take_more_set, drop-set-lt, take-append-drop, length-set}
use Rattle.relocs.specs.Data.{put_bytes}

-- bytes from an offset on, one after another, are a part of the whole
pub part_put : (bs xs : List ℕ) (off : ℕ) → off + length bs ≤ length xs → put_bytes xs off bs ≡ take off xs ++ (bs ++ drop (off + length bs) xs)
unfolding put_bytes
part_put [] xs off h = let e : off + 0 ≡ off = omega arith in rw e (sym (take-append-drop off xs))
part_put (b ∷ bs) xs off h =
    let rest : off + 1 + length bs ≤ length (slice_set xs off b) = grind (arith, common_steps, h) in
    let end : off + 1 + length bs ≡ off + length (b ∷ bs) = omega arith in
    let before : take (off + 1) (slice_set xs off b) ≡ take off xs ++ (b ∷ []) = take_more_set xs off b (omega (arith, h)) in
    let after : drop (off + 1 + length bs) (slice_set xs off b) ≡ drop (off + 1 + length bs) xs = drop-set-lt (off + 1 + length bs) xs off b (omega arith) in
    part_put bs (slice_set xs off b) (off + 1) rest
    ∙ (λ i. before i ++ (bs ++ after i))
    ∙ append_assoc (take off xs) (b ∷ []) (bs ++ drop (off + 1 + length bs) xs)
    ∙ (λ i. take off xs ++ (b ∷ (bs ++ drop (end i) xs)))

-- there are as many bytes as before
pub length-put_bytes : (bs xs : List ℕ) (off : ℕ) → length (put_bytes xs off bs) ≡ length xs
unfolding put_bytes
length-put_bytes [] xs off = refl
length-put_bytes (b ∷ bs) xs off = length-put_bytes bs (slice_set xs off b) (off + 1) ∙ length-set xs off b
