-- The files of a bundle by their numbers, and one file more.
use Rattle.std.proofs.Common.{◌≡◌, ℕ, zero, suc, ◌+◌, ◌-◌, ◌≤◌, ◌<◌, ◌^◌, List, [], ◌∷◌, ◌++◌, length, take, drop, Some, refl, sym, ap, ◌∙◌, arith, length-take, length-drop, length-append}
use Rattle.std.specs.Prelude.{slice_get, slice_index_or}
use Rattle.std.proofs.lemmas.Option.{slice_get-get_or}
use Rattle.std.proofs.Math.Seq.{drop-append_seam, take-length}
use Rattle.std.proofs.lemmas.List.{take-append-le, drop-append-le}
use Rattle.link_core.specs.Parts.{parts, total, start_at, Rise, IsBundle}

pub length_parts : (start : ℕ) (ends bytes : List ℕ) → length (parts start ends bytes) ≡ length ends
unfolding parts
length_parts start [] bytes = refl
length_parts start (end ∷ ends) bytes = ap suc (length_parts end ends bytes)

rise_le : (start : ℕ) (ends : List ℕ) (last : ℕ) → Rise start ends last → start ≤ last
rise_le start [] last h = omega (arith, h)
rise_le start (end ∷ ends) last h = omega (arith, h.0, rise_le end ends last h.2)

-- all files together are the buffer
total_from : (start : ℕ) (ends bytes : List ℕ) → Rise start ends (length bytes) → start + total (parts start ends bytes) ≡ length bytes
unfolding parts total
total_from start [] bytes h = omega (arith, h)
total_from start (end ∷ ends) bytes h =
    omega (arith, h.0, rise_le end ends (length bytes) h.2, total_from end ends bytes h.2, length-take (end - start) (drop start bytes), length-drop start bytes)

pub total_parts : (ends bytes : List ℕ) → Rise 0 ends (length bytes) → total (parts 0 ends bytes) ≡ length bytes
total_parts ends bytes h = omega (arith, total_from 0 ends bytes h)

-- it begins where the one before it ends
pub start_after : (start : ℕ) (ends : List ℕ) (at end : ℕ) → slice_get ends at ≡ Some end → start_at start ends (suc at) ≡ end
start_after start [] at end e = absurd cc
start_after start (x ∷ ends) zero end e = cc
start_after start (x ∷ ends) (suc at) end e = start_after x ends at end e

pub record IsWithin (start end last : ℕ) : Type 0 where
  pub up : start ≤ end
  pub short : end ≤ start + 2 ^ 24
  pub within : end ≤ last

pub within_at : (start : ℕ) (ends : List ℕ) (last at end : ℕ) → Rise start ends last → slice_get ends at ≡ Some end → IsWithin (start_at start ends at) end last
within_at start [] last at end h e = absurd cc
within_at start (x ∷ ends) last zero end h e =
    let same : x ≡ end = cc in
    record { up = omega (arith, h.0, same); short = omega (arith, h.1, same); within = omega (arith, rise_le x ends last h.2, same) }
within_at start (x ∷ ends) last (suc at) end h e = within_at x ends last at end h.2 e

-- the part with a number
pub part_at : (start : ℕ) (ends bytes : List ℕ) (at end : ℕ) → slice_get ends at ≡ Some end → slice_get (parts start ends bytes) at ≡ Some (take (end - start_at start ends at) (drop (start_at start ends at) bytes))
unfolding parts
part_at start [] bytes at end e = absurd cc
part_at start (x ∷ ends) bytes zero end e = (let same : x ≡ end = cc in rw same refl)
part_at start (x ∷ ends) bytes (suc at) end e = part_at x ends bytes at end e

take_front : (start end : ℕ) (bytes piece : List ℕ) → start ≤ end → end ≤ length bytes → take (end - start) (drop start (bytes ++ piece)) ≡ take (end - start) (drop start bytes)
take_front start end bytes piece up within =
    ap (take (end - start)) (drop-append-le start bytes piece (omega (arith, up, within)))
    ∙ take-append-le (end - start) (drop start bytes) piece (omega (arith, up, within, length-drop start bytes))

-- a file more
pub parts_more : (start : ℕ) (ends bytes piece : List ℕ) → Rise start ends (length bytes) → parts start (ends ++ ((length bytes + length piece) ∷ [])) (bytes ++ piece) ≡ parts start ends bytes ++ (piece ∷ [])
unfolding parts
parts_more start [] bytes piece h =
    let all : length bytes + length piece - start ≡ length piece = omega (arith, h) in
    let after : drop start (bytes ++ piece) ≡ piece = ap (λ n. drop n (bytes ++ piece)) h ∙ drop-append_seam bytes piece in
    rw (all, after) (ap (λ l. l ∷ []) (take-length piece))
parts_more start (end ∷ ends) bytes piece h =
    rw (take_front start end bytes piece h.0 (rise_le end ends (length bytes) h.2)) (ap (λ l. take (end - start) (drop start bytes) ∷ l) (parts_more end ends bytes piece h.2))

pub rise_more : (start : ℕ) (ends : List ℕ) (last more : ℕ) → Rise start ends last → more ≤ 2 ^ 24 → Rise start (ends ++ ((last + more) ∷ [])) (last + more)
rise_more start [] last more h few = (omega (arith, h), omega (arith, h, few), refl)
rise_more start (end ∷ ends) last more h few = (h.0, h.1, rise_more end ends last more h.2 few)

-- the same of an index
pub bounds_at : (ends : List ℕ) (last at : ℕ) → at < length ends → Rise 0 ends last → IsWithin (start_at 0 ends at) (slice_index_or ends at 0) last
bounds_at ends last at lt h = within_at 0 ends last at (slice_index_or ends at 0) h (slice_get-get_or ends at 0 lt)

pub there_at : (ends bytes : List ℕ) (at : ℕ) → at < length ends → slice_get (parts 0 ends bytes) at ≡ Some (take (slice_index_or ends at 0 - start_at 0 ends at) (drop (start_at 0 ends at) bytes))
there_at ends bytes at lt = part_at 0 ends bytes at (slice_index_or ends at 0) (slice_get-get_or ends at 0 lt)

pub len_at : (ends bytes : List ℕ) (at : ℕ) → at < length ends → Rise 0 ends (length bytes) → length (take (slice_index_or ends at 0 - start_at 0 ends at) (drop (start_at 0 ends at) bytes)) ≤ 2 ^ 24
len_at ends bytes at lt h =
    let b = bounds_at ends (length bytes) at lt h in
    omega (arith, b.up, b.short, b.within, length-take (slice_index_or ends at 0 - start_at 0 ends at) (drop (start_at 0 ends at) bytes))

-- the part before the first begins at the start, and any other where the one before it ends
pub start_is : (ends : List ℕ) (at : ℕ) → (at ≡ 0 → ⊥) → at < length ends → slice_index_or ends (at - 1) 0 ≡ start_at 0 ends at
start_is ends zero e lt = absurd (e refl)
start_is ends (suc at) e lt =
    let before : suc at - 1 ≡ at = omega arith in
    rw before (sym (start_after 0 ends at (slice_index_or ends at 0) (slice_get-get_or ends at 0 (omega (arith, lt)))))

-- a bundle with a file more
pub bundle_more : (ends bytes piece ends' bytes' : List ℕ) (end : ℕ) → IsBundle ends bytes → ends' ≡ ends ++ (end ∷ []) → bytes' ≡ bytes ++ piece → end ≡ length bytes + length piece → length (parts 0 ends bytes) < 1024 → length piece ≤ 2 ^ 24 → total (parts 0 ends bytes) + length piece ≤ 2 ^ 26 → IsBundle ends' bytes'
bundle_more ends bytes piece ends' bytes' end h is_ends is_bytes is_end count one all =
    rw (is_ends, is_bytes, is_end) (record {
      few = omega (arith, count, length_parts 0 ends bytes, length-append ends ((length bytes + length piece) ∷ []));
      small = omega (arith, all, total_parts ends bytes h.rise, length-append bytes piece);
      rise = rw (length-append bytes piece) (rise_more 0 ends (length bytes) (length piece) h.rise one);
    })
