-- Shorter offsets make shorter distances, so lengths grow from 0 to the shortest that are wide enough.
use Rattle.std.proofs.Common.{◌≡◌, ◌⊎◌, inl, inr, ℕ, zero, suc, ◌+◌, ◌-◌, ◌<◌, ◌≤◌, ◌*◌, ◌^◌, List, [], ◌∷◌, length, Option, Some, None, ◌≢◌, get_or-set_same, get_or-set_other, refl, sym, ap, ◌∙◌, subst, ⊎_elim, arith}
use Rattle.std.specs.Prelude.{slice_get, slice_index, slice_set, sum}
use Rattle.std.proofs.lemmas.Bool.{cases_lt, cases_eq}
use Rattle.std.proofs.lemmas.Option.{slice_get_within}
use Rattle.std.proofs.lemmas.List.Sums.{sum_by-set, sum_by-cons}
use Rattle.std.proofs.lemmas.Nat.{pow_pos}
use Rattle.std.proofs.lemmas.Grind.{common_steps}
use Rattle.jump_table.specs.declared.shapes.Shape.{Shape}
use Rattle.jump_table.specs.Lengths.{FitsIn, Below}
use Rattle.jump_table.specs.Shapes.{offset_bytes, size_with, start, Wide, AtMost4, NoLonger, FitBefore, AreShapeStarts, TargetsWithin, IsWanted, Wanted}

-- a shape where there is none
abbrev pub no_shape : Shape
no_shape = record { front = 0; last = 0; target = None }

pub start_zero : (shapes : List Shape) (lens : List ℕ) → start shapes lens 0 ≡ 0
start_zero [] lens = refl
start_zero (s ∷ shapes) lens = refl

-- lengths by the first and the rest
abbrev pub head : List ℕ → ℕ
head [] = 0
head (l ∷ lens) = l

abbrev pub tail : List ℕ → List ℕ
tail [] = []
tail (l ∷ lens) = lens

pub start_suc : (s : Shape) (shapes : List Shape) (lens : List ℕ) (t : ℕ) → start (s ∷ shapes) lens (suc t) ≡ size_with s (head lens) + start shapes (tail lens) t
start_suc s shapes [] t = refl
start_suc s shapes (l ∷ lens) t = refl

pub tail_index : (lens : List ℕ) (i : ℕ) → slice_index (tail lens) i ≡ slice_index lens (suc i)
tail_index [] i = refl
tail_index (l ∷ lens) i = refl

pub head_index : (lens : List ℕ) → head lens ≡ slice_index lens 0
head_index [] = refl
head_index (l ∷ lens) = refl

below_head : (a b : List ℕ) → Below a b → head a ≤ head b
below_head a b h = rw (head_index a, head_index b) (h 0)

below_tail : (a b : List ℕ) → Below a b → Below (tail a) (tail b)
below_tail a b h i = rw (tail_index a i, tail_index b i) (h (suc i))

-- a block with a shorter offset is no longer
bytes_le : (target : Option ℕ) (a b : ℕ) → a ≤ b → offset_bytes target a ≤ offset_bytes target b
bytes_le None a b le = omega arith
bytes_le (Some target) a b le = le

-- nor is a sequence of blocks
stretch_le : (shapes : List Shape) (a b : List ℕ) (t u : ℕ) → Below a b → t ≤ u → start shapes a u + start shapes b t ≤ start shapes b u + start shapes a t
stretch_le [] a b t u h le = omega arith
stretch_le (s ∷ shapes) a b zero zero h le = omega arith
stretch_le (s ∷ shapes) a b (suc t) zero h le = absurd (omega arith)
stretch_le (s ∷ shapes) a b zero (suc u) h le =
    let r = stretch_le shapes (tail a) (tail b) zero u (below_tail a b h) (omega arith) in
    let k = bytes_le s.target (head a) (head b) (below_head a b h) in
    let za = start_zero shapes (tail a) in
    let zb = start_zero shapes (tail b) in
    rw (start_suc s shapes a u, start_suc s shapes b u) (omega arith)
stretch_le (s ∷ shapes) a b (suc t) (suc u) h le =
    let r = stretch_le shapes (tail a) (tail b) t u (below_tail a b h) (omega arith) in
    let k = bytes_le s.target (head a) (head b) (below_head a b h) in
    rw (start_suc s shapes a t, start_suc s shapes a u, start_suc s shapes b t, start_suc s shapes b u) (omega arith)

-- nor do all begin later
pub start_below : (shapes : List Shape) (a b : List ℕ) (t : ℕ) → Below a b → start shapes a t ≤ start shapes b t
start_below shapes a b t h =
    let r = stretch_le shapes a b 0 t h (omega arith) in
    omega (arith, r, start_zero shapes a, start_zero shapes b)

pub start_le : (shapes : List Shape) (lens : List ℕ) (t u : ℕ) → t ≤ u → start shapes lens t ≤ start shapes lens u
start_le [] lens t u le = omega arith
start_le (s ∷ shapes) lens zero u le = omega arith
start_le (s ∷ shapes) lens (suc t) zero le = absurd (omega arith)
start_le (s ∷ shapes) lens (suc t) (suc u) le =
    let r = start_le shapes (tail lens) t u (omega arith) in
    rw (start_suc s shapes lens t, start_suc s shapes lens u) (omega arith)

-- the next begins where a block ends
pub start_more : (shapes : List Shape) (lens : List ℕ) (i : ℕ) (s : Shape) → slice_get shapes i ≡ Some s → start shapes lens (i + 1) ≡ start shapes lens i + size_with s (slice_index lens i)
start_more [] lens i s e = absurd cc
start_more (x ∷ shapes) lens zero s e =
    let same : x ≡ s = cc in
    let z = start_zero shapes (tail lens) in
    rw (start_suc x shapes lens 0, same, head_index lens, z) (omega arith)
start_more (x ∷ shapes) lens (suc i) s e =
    let r = start_more shapes (tail lens) i s e in
    let n : suc i + 1 ≡ suc (i + 1) = omega arith in
    rw (n, start_suc x shapes lens (i + 1), start_suc x shapes lens i, r, tail_index lens i) (omega arith)

-- a block is at least as long as what is before its last instruction
pub block_long : (shapes : List Shape) (lens : List ℕ) (i : ℕ) (s : Shape) → slice_get shapes i ≡ Some s → start shapes lens i + s.front ≤ start shapes lens (suc i)
block_long shapes lens i s e =
    let more = start_more shapes lens i s e in
    let n : suc i ≡ i + 1 = omega arith in
    rw n (omega (arith, more))

reach : (l : ℕ) → 0 < 2 ^ (8 * l + 7)
reach l = pow_pos (8 * l + 7)

-- two distances of one sign, the second no less
fits_nearer : (l a b a' b' : ℕ) → ((b ≤ a) × (a + b' ≤ a' + b)) ⊎ ((a ≤ b) × (b + a' ≤ b' + a)) → FitsIn l a' b' → FitsIn l a b
fits_nearer zero a b a' b' near f = ⊎_elim (λ n. let x = n.0 in let y = n.1 in omega arith) (λ n. let x = n.0 in let y = n.1 in omega arith) near
fits_nearer (suc l) a b a' b' near f =
    let p = reach l in
    let f0 = f.0 in
    let f1 = f.1 in
    ⊎_elim
    (λ n. let x = n.0 in let y = n.1 in (omega arith, omega arith))
    (λ n. let x = n.0 in let y = n.1 in (omega arith, omega arith))
    near

-- distances do not change if all is later
pub fits_later : (l base a b : ℕ) → FitsIn l a b → FitsIn l (base + a) (base + b)
fits_later zero base a b f = omega arith
fits_later (suc l) base a b f =
    let f0 = f.0 in
    let f1 = f.1 in
    (omega arith, omega arith)

pub fits_earlier : (l base a b : ℕ) → FitsIn l (base + a) (base + b) → FitsIn l a b
fits_earlier zero base a b f = omega arith
fits_earlier (suc l) base a b f =
    let f0 = f.0 in
    let f1 = f.1 in
    (omega arith, omega arith)

-- what fits in a longer code fits in a shorter one
fits_below : (shapes : List Shape) (a b : List ℕ) (i t l : ℕ) (s : Shape) → slice_get shapes i ≡ Some s → Below a b → FitsIn l (start shapes b i + s.front) (start shapes b t) → FitsIn l (start shapes a i + s.front) (start shapes a t)
fits_below shapes a b i t l s e h f =
    fits_nearer l _ _ _ _
    (⊎_elim
    (λ lt.
    let long = block_long shapes a i s e in
    let up = start_le shapes a (suc i) t lt in
    let r = stretch_le shapes a b i t h (omega arith) in
    inr (omega arith, omega arith))
    (λ le.
    let up = start_le shapes a t i le in
    let r = stretch_le shapes a b t i h le in
    inl (omega arith, omega arith))
    (cases_lt i t))
    f

-- so the least length that fits is no longer than that in any other lengths that are wide enough
pub longer : (shapes : List Shape) (a b : List ℕ) (i t len : ℕ) (s : Shape) → slice_get shapes i ≡ Some s → s.target ≡ Some t → Below a b → Wide shapes b → ((l : ℕ) → l < len → FitsIn l (start shapes a i + s.front) (start shapes a t) → ⊥) → len ≤ slice_index b i
longer shapes a b i t len s e et h w shorter =
    ⊎_elim
    (λ lt. absurd (shorter (slice_index b i) lt (fits_below shapes a b i t (slice_index b i) s e h (w.fits i t s e et))))
    (λ le. le)
    (cases_lt (slice_index b i) len)

-- what fits a length fits a longer one
one_more : (l from to : ℕ) → FitsIn l from to → l < 4 → FitsIn (l + 1) from to
one_more zero from to f lt = (omega arith, omega arith)
one_more (suc zero) from to f lt = let f0 = f.0 in let f1 = f.1 in (omega arith, omega arith)
one_more (suc (suc zero)) from to f lt = let f0 = f.0 in let f1 = f.1 in (omega arith, omega arith)
one_more (suc (suc (suc zero))) from to f lt = let f0 = f.0 in let f1 = f.1 in (omega arith, omega arith)
one_more (suc (suc (suc (suc l)))) from to f lt = absurd (omega arith)

fits_longer : (k l from to : ℕ) → l + k ≤ 4 → FitsIn l from to → FitsIn (l + k) from to
fits_longer zero l from to le f = let n : l + 0 ≡ l = omega arith in rw n f
fits_longer (suc k) l from to le f =
    let n : l + suc k ≡ l + k + 1 = omega arith in
    rw n (one_more (l + k) from to (fits_longer k l from to (omega arith) f) (omega arith))

fits_up : (l m from to : ℕ) → l ≤ m → m ≤ 4 → FitsIn l from to → FitsIn m from to
fits_up l m from to le few f =
    let n : l + (m - l) ≡ m = omega arith in
    subst (λ k. FitsIn k from to) n (fits_longer (m - l) l from to (omega arith) f)

-- what a sweep keeps
pub record Swept (shapes : List Shape) (from lens : List ℕ) (grown n : ℕ) : Type 0 where
  pub count : length lens ≡ length shapes
  pub rest : (k : ℕ) → n ≤ k → slice_index lens k ≡ slice_index from k
  pub most : AtMost4 lens
  pub least : NoLonger shapes from lens
  pub few : grown ≤ n
  pub grew_more : 0 < grown → sum from < sum lens
  pub same : grown ≡ 0 → lens ≡ from
  pub fit : grown ≡ 0 → FitBefore shapes from n

pub kept : (shapes : List Shape) (from lens : List ℕ) (grown n : ℕ) → Swept shapes from lens grown n → ((t : ℕ) (s : Shape) → slice_get shapes n ≡ Some s → s.target ≡ Some t → FitsIn (slice_index from n) (start shapes from n + s.front) (start shapes from t)) → Swept shapes from lens grown (n + 1)
kept shapes from lens grown n w f = record {
  count = w.count;
  rest = λ k le. w.rest k (omega arith);
  most = w.most;
  least = w.least;
  few = omega (arith, w.few);
  grew_more = w.grew_more;
  same = w.same;
  fit = λ g i t s lt es et.
      ⊎_elim (λ here. w.fit g i t s here es et)
      (λ le.
      let e : i ≡ n = omega arith in
      subst (λ k. FitsIn (slice_index from k) (start shapes from k + s.front) (start shapes from t)) (sym e) (f t s (subst (λ k. slice_get shapes k ≡ Some s) e es) et))
      (cases_lt i n);
}

pub raised : (shapes : List Shape) (from lens : List ℕ) (grown n t len : ℕ) (s : Shape) → Swept shapes from lens grown n → n < length lens → slice_get shapes n ≡ Some s → s.target ≡ Some t → ((l : ℕ) → l < len → FitsIn l (start shapes from n + s.front) (start shapes from t) → ⊥) → len ≤ 4 → slice_index lens n < len → sum from ≤ sum lens → Swept shapes from (slice_set lens n len) (grown + 1) (n + 1)
raised shapes from lens grown n t len s w within es et shorter few lt up = record {
  count = grind (arith, common_steps, w.count);
  rest = λ k le. let ne : k ≢ n = λ e. absurd (omega arith) in get_or-set_other lens n k _ 0 ne ∙ w.rest k (omega arith);
  most = λ k. grind (arith, common_steps, w.most k);
  least = λ other wide below k.
      let old = w.least other wide below k in
      let more = longer shapes from other n t len s es et below wide shorter in
      ⊎_elim
      (λ (e : k ≡ n). rw (e, get_or-set_same lens n len 0 within) more)
      (λ (ne : k ≡ n → ⊥). rw (get_or-set_other lens n k len 0 ne) old)
      (cases_eq k n);
  few = omega (arith, w.few);
  grew_more = λ e. let total = sum_by-set (λ x. x) lens n len 0 within in omega arith;
  same = λ e. absurd (omega (arith, e));
  fit = λ e. absurd (omega (arith, e));
}

-- one turn of a sweep, by the starts of the blocks
module _ (base : ℕ) (shapes : List Shape) (from lens starts : List ℕ) (grown n len : ℕ) (s : Shape) (are_starts : AreShapeStarts base shapes from starts) (targets : TargetsWithin shapes) (within : n < length shapes) (is : slice_get shapes n ≡ Some s) (w : Swept shapes from lens grown n) where
  here : slice_index lens n ≡ slice_index from n
  here = w.rest n (omega arith)

  no_less : sum from ≤ sum lens
  no_less =
      ⊎_elim (λ (e : 0 < grown). let m = w.grew_more e in omega arith) (λ (e : grown ≤ 0). let m = ap sum (w.same (omega (arith, e))) in omega arith) (cases_lt 0 grown)

  -- the positions by the starts
  at_start : (t l : ℕ) → t < length shapes → FitsIn l (slice_index starts n + s.front) (slice_index starts t) → FitsIn l (start shapes from n + s.front) (start shapes from t)
  at_start t l lt f =
      let a : slice_index starts n + s.front ≡ base + (start shapes from n + s.front) = omega (arith, are_starts.are n within) in
      fits_earlier l base _ _ (subst (λ to. FitsIn l (base + (start shapes from n + s.front)) to) (are_starts.are t lt) (subst (λ p. FitsIn l p (slice_index starts t)) a f))

  of_start : (t l : ℕ) → t < length shapes → FitsIn l (start shapes from n + s.front) (start shapes from t) → FitsIn l (slice_index starts n + s.front) (slice_index starts t)
  of_start t l lt f =
      let a : base + (start shapes from n + s.front) ≡ slice_index starts n + s.front = omega (arith, are_starts.are n within) in
      subst (λ p. FitsIn l p (slice_index starts t)) a (subst (λ to. FitsIn l (base + (start shapes from n + s.front)) to) (sym (are_starts.are t lt)) (fits_later l base _ _ f))

  pub sweep_raised : IsWanted s n starts len → slice_index lens n < len → Swept shapes from (slice_set lens n len) (grown + 1) (n + 1)
  sweep_raised wanted lt = by_target s.target refl wanted
    where
      by_target : (o : Option ℕ) → s.target ≡ o → Wanted o (slice_index starts n + s.front) starts len → Swept shapes from (slice_set lens n len) (grown + 1) (n + 1)
      by_target None e h = absurd (omega (arith, h, lt))
      by_target (Some t) e h =
          raised shapes from lens grown n t len s w (omega (arith, w.count)) is e
          (λ l less f. h.shorter l less (of_start t l (targets n t s is e) f)) h.most lt no_less

  pub sweep_kept : IsWanted s n starts len → len ≤ slice_index lens n → Swept shapes from lens grown (n + 1)
  sweep_kept wanted le = kept shapes from lens grown n w (λ t x ex et. by_target t x ex et s.target refl wanted)
    where
      by_target : (t : ℕ) (x : Shape) → slice_get shapes n ≡ Some x → x.target ≡ Some t → (o : Option ℕ) → s.target ≡ o → Wanted o (slice_index starts n + s.front) starts len → FitsIn (slice_index from n) (start shapes from n + x.front) (start shapes from t)
      by_target t x ex et None e h = (let same : x ≡ s = cc in absurd cc)
      by_target t x ex et (Some u) e h =
          let same : x ≡ s = cc in
          let to : u ≡ t = cc in
          let m = w.most n in
          rw (same, ← here)
          (at_start t (slice_index lens n) (targets n t x ex et)
          (fits_up len (slice_index lens n) _ _ le m (subst (λ y. FitsIn len (slice_index starts n + s.front) (slice_index starts y)) to h.fits)))

pub sweep_end : (shapes : List Shape) (from lens : List ℕ) (grown n : ℕ) → Swept shapes from lens grown n → grown ≡ 0 → length shapes ≤ n → (lens ≡ from) × Wide shapes lens
sweep_end shapes from lens grown n w e le =
    let same = w.same e in
    (same, record { most = w.most; fits = λ i t s es et. let lt = slice_get_within shapes i s es in rw same (w.fit e i t s (omega arith) es et) })

most_tail : (lens : List ℕ) → AtMost4 lens → AtMost4 (tail lens)
most_tail lens h i = rw (tail_index lens i) (h (suc i))

-- so lengths grow no further than to four each
pub sum_most : (lens : List ℕ) → AtMost4 lens → sum lens ≤ 4 * length lens
sum_most [] h = omega arith
sum_most (l ∷ lens) h =
    let a = h 0 in
    let r = sum_most lens (most_tail (l ∷ lens) h) in
    let c = sum_by-cons (λ x. x) l lens in
    omega arith

-- one start more
pub at_set : (starts : List ℕ) (n at : ℕ) (f : ℕ → ℕ) → n < length starts → ((t : ℕ) → t < n → slice_index starts t ≡ f t) → at ≡ f n → (t : ℕ) → t < n + 1 → slice_index (slice_set starts n at) t ≡ f t
at_set starts n at f within before here t lt =
    ⊎_elim
    (λ (e : t ≡ n). rw (e, get_or-set_same starts n at 0 within) here)
    (λ (ne : t ≡ n → ⊥). get_or-set_other starts n t at 0 ne ∙ before t (let no : t ≢ n = ne in omega arith))
    (cases_eq t n)
