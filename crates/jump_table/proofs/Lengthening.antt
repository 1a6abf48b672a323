-- One offset gets longer: which blocks move, and that the lengths are no longer than they must be.
use Rattle.std.proofs.Common.{◌≡◌, ℕ, zero, suc, ◌+◌, ◌-◌, ◌*◌, ◌/◌, ◌<◌, ◌≤◌, List, [], ◌∷◌, length, Option, Some, None, ◌≢◌, get_or-set_same, get_or-set_other, refl, sym, ap, ◌∙◌, subst, ⊎_elim, arith}
use Rattle.std.specs.Prelude.{slice_get, slice_index, slice_set, sum}
use Rattle.std.proofs.lemmas.Bool.{cases_lt, cases_eq}
use Rattle.std.proofs.lemmas.List.{length-set}
use Rattle.std.proofs.lemmas.List.Sums.{sum_by-set}
use Rattle.std.proofs.lemmas.Grind.{common_steps}
use Rattle.jump_table.specs.declared.shapes.Shape.{Shape}
use Rattle.jump_table.specs.declared.settling.Places.{Places}
use Rattle.jump_table.specs.declared.settling.Span.{Span}
use Rattle.jump_table.specs.Lengths.{FitsIn, Below}
use Rattle.jump_table.specs.Assembling.{most_bytes}
use Rattle.jump_table.specs.Shapes.{offset_bytes, size_with, start, Wide, AtMost4, NoLonger, AreShapeStarts, TargetsWithin, IsLeastLen}
use Rattle.jump_table.specs.Settling.{place_of, ArePlaced, Grown, IsSpan}
use Rattle.jump_table.proofs.Least.{start_le, block_long, fits_later, longer}

-- a block that gets longer doesn't move those up to it
start_before : (shapes : List Shape) (lens : List ℕ) (n len u : ℕ) → u ≤ n → start shapes (slice_set lens n len) u ≡ start shapes lens u
start_before [] lens n len u le = refl
start_before (s ∷ shapes) lens n len zero le = refl
start_before (s ∷ shapes) [] n len (suc u) le = refl
start_before (s ∷ shapes) (l ∷ lens) zero len (suc u) le = absurd (omega arith)
start_before (s ∷ shapes) (l ∷ lens) (suc n) len (suc u) le = let rest = start_before shapes lens n len u (omega arith) in ap (λ at. size_with s l + at) rest

-- and moves those behind it
start_after : (shapes : List Shape) (lens : List ℕ) (n len u t : ℕ) (s : Shape) → slice_get shapes n ≡ Some s → s.target ≡ Some t → n < length lens → n < u → start shapes (slice_set lens n len) u + slice_index lens n ≡ start shapes lens u + len
start_after [] lens n len u t s e et within lt = absurd cc
start_after (x ∷ shapes) [] n len u t s e et within lt = absurd (omega arith)
start_after (x ∷ shapes) (l ∷ lens) n len zero t s e et within lt = absurd (omega arith)
start_after (x ∷ shapes) (l ∷ lens) zero len (suc u) t s e et within lt =
    let same : x ≡ s = cc in
    let target : x.target ≡ Some t = ap (λ (y : Shape). y.target) same ∙ et in
    let more : offset_bytes x.target len ≡ len = ap (λ o. offset_bytes o len) target in
    let less : offset_bytes x.target l ≡ l = ap (λ o. offset_bytes o l) target in
    omega (arith, more, less)
start_after (x ∷ shapes) (l ∷ lens) (suc n) len (suc u) t s e et within lt =
    let rest = start_after shapes lens n len u t s e et (omega arith) (omega arith) in
    omega (arith, rest)

-- lengths that do not change have not grown too far
pub grown_none : (shapes : List Shape) (lens : List ℕ) → Grown shapes lens lens
grown_none shapes lens = record { count = refl; most = λ most. most; least = λ other wide below. below; more = omega arith }

pub grown_more : (shapes : List Shape) (from between lens : List ℕ) → Grown shapes from between → Grown shapes between lens → Grown shapes from lens
grown_more shapes from between lens first then = record {
  count = then.count ∙ first.count;
  most = λ most. then.most (first.most most);
  least = λ other wide below. then.least other wide (first.least other wide below);
  more = omega (arith, first.more, then.more);
}

module _ (shapes : List Shape) (lens : List ℕ) (p : Places) (placed : ArePlaced shapes lens p) where
  -- all begins in the code
  pub place_small : (t : ℕ) → t < length shapes → place_of p t ≤ most_bytes
  place_small t lt = let up = start_le shapes lens t (length shapes) (omega (arith, lt)) in omega (arith, placed.are t lt, placed.is_end, placed.small, up)

  pub front_small : (at : ℕ) (s : Shape) → slice_get shapes at ≡ Some s → at < length shapes → place_of p at + s.front ≤ most_bytes
  front_small at s e lt =
      let long = block_long shapes lens at s e in
      let up = start_le shapes lens (suc at) (length shapes) (omega (arith, lt)) in
      omega (arith, placed.are at lt, placed.is_end, placed.small, long, up)

  pub shift_within : (t : ℕ) → t < length shapes → t / 2048 < length p.shifts.items
  shift_within t lt = omega (arith, placed.shifts_enough)

  pub span_is : (block : ℕ) (s : Shape) (target : ℕ) (span : Span) → slice_get shapes block ≡ Some s → block < length shapes → s.target ≡ Some target → span.from ≡ place_of p block + s.front → span.to ≡ place_of p target → IsSpan shapes p block span
  span_is block s target span e lt et from to = record {
    target = target;
    shape = s;
    there = e;
    is_target = et;
    from = from;
    to = to;
    from_small = let small = front_small block s e lt in omega (arith, small, from);
    to_small = let small = place_small target (placed.targets block target s e et) in omega (arith, small, to);
  }

  -- one offset gets the least length that it fits
  module _ (block len : ℕ) (span : Span) (within : block < length shapes) (is : IsSpan shapes p block span) (least : IsLeastLen len span.from span.to) (more : slice_index lens block < len) where
    inside : block < length lens
    inside = omega (arith, within, placed.count)

    shorter : (l : ℕ) → l < len → FitsIn l (start shapes lens block + is.shape.front) (start shapes lens is.target) → ⊥
    shorter l lt f =
        let from : span.from ≡ placed.base + (start shapes lens block + is.shape.front) = omega (arith, is.from, placed.are block within) in
        let to : span.to ≡ placed.base + start shapes lens is.target = is.to ∙ placed.are is.target (placed.targets block is.target is.shape is.there is.is_target) in
        least.shorter l lt (subst (λ a. FitsIn l a span.to) (sym from) (subst (λ b. FitsIn l (placed.base + (start shapes lens block + is.shape.front)) b) (sym to) (fits_later l placed.base _ _ f)))

    pub grown_one : Grown shapes lens (slice_set lens block len)
    grown_one = record {
      count = length-set _ _ _;
      most = λ most k. few k (most k);
      least = λ other wide below k.
          let old = below k in
          let long = longer shapes lens other block is.target len is.shape is.there is.is_target below wide shorter in
          ⊎_elim
          (λ (e : k ≡ block). rw (e, get_or-set_same lens block len 0 inside) long)
          (λ (ne : k ≡ block → ⊥). rw (get_or-set_other lens block k len 0 ne) old)
          (cases_eq k block);
      more = let total = sum_by-set (λ x. x) lens block len 0 inside in omega (arith, total, more);
    }
      where
        few : (k : ℕ) → slice_index lens k ≤ 4 → slice_index (slice_set lens block len) k ≤ 4
        few k old = let most = least.most in grind (arith, common_steps, old)

    -- and the blocks after it move
    pub placed_one : (q : Places) (by : ℕ) → by + slice_index lens block ≡ len
        → length q.starts.items ≡ length p.starts.items → length q.shifts.items ≡ length p.shifts.items
        → ((t : ℕ) → t < length p.starts.items → t ≤ block → place_of q t ≡ place_of p t)
        → ((t : ℕ) → t < length p.starts.items → block < t → place_of q t ≡ place_of p t + by)
        → q.end ≡ p.end + by → q.end ≤ most_bytes
        → ArePlaced shapes (slice_set lens block len) q
    placed_one q by is_by starts shifts before after end small = record {
      base = placed.base;
      count = length-set _ _ _ ∙ placed.count;
      starts_count = starts ∙ placed.starts_count;
      shifts_enough = omega (arith, shifts, placed.shifts_enough);
      shifts_few = omega (arith, shifts, placed.shifts_few);
      are = λ t lt.
          ⊎_elim
          (λ (less : block < t). omega (arith, after t (omega (arith, lt, placed.starts_count)) less, placed.are t lt, start_after shapes lens block len t is.target is.shape is.there is.is_target inside less, is_by))
          (λ (le : t ≤ block). before t (omega (arith, lt, placed.starts_count)) le ∙ placed.are t lt ∙ ap (λ at. placed.base + at) (sym (start_before shapes lens block len t le)))
          (cases_lt block t);
      is_end = omega (arith, end, placed.is_end, start_after shapes lens block len (length shapes) is.target is.shape is.there is.is_target inside within, is_by);
      small = small;
      targets = placed.targets;
    }
