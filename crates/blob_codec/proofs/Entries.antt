-- The entries of a table in its bytes.
use Rattle.std.proofs.Common.{◌≡◌, ℕ, zero, suc, ◌+◌, ◌*◌, ◌<◌, ◌≤◌, List, length, take, drop, slice_index, refl, ap, ◌∙◌, arith}
use Rattle.std.proofs.Math.Nat.{mul-le-mul_right}
use Rattle.std.proofs.lemmas.List.{drop-drop}
use Rattle.numbers.specs.Bytes.{number_of}
use Rattle.blob_codec.specs.Reading.{entries_of}

pub length-entries_of : (n width : ℕ) (bytes : List ℕ) → length (entries_of n width bytes) ≡ n
unfolding entries_of
length-entries_of zero width bytes = refl
length-entries_of (suc n) width bytes = ap suc (length-entries_of n width (drop width bytes))

pub entry_ends : (n width at : ℕ) → at < n → at * width + width ≤ n * width
entry_ends n width at lt = let h : suc at * width ≤ n * width = mul-le-mul_right width (omega arith) in omega (arith, h)

pub slice_index-entries_of : (n width : ℕ) (bytes : List ℕ) (at : ℕ) → at < n → slice_index (entries_of n width bytes) at ≡ number_of (take width (drop (at * width) bytes))
unfolding entries_of
slice_index-entries_of zero width bytes at lt = absurd (omega arith)
slice_index-entries_of (suc n) width bytes zero lt = let e : 0 * width ≡ 0 = omega arith in rw e refl
slice_index-entries_of (suc n) width bytes (suc at) lt =
    slice_index-entries_of n width (drop width bytes) at (omega arith)
    ∙ ap (λ (rest : List ℕ). number_of (take width rest)) (drop-drop (at * width) width bytes ∙ ap (λ (k : ℕ). drop k bytes) (omega arith))

pub ruleset entries = (length-entries_of, entry_ends, slice_index-entries_of)
