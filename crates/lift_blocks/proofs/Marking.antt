-- Marks at places.
use Rattle.std.proofs.Common.{◌≡◌, ℕ, suc, ◌+◌, ◌<◌, ◌≤◌, Option, get_or, Bool, true, false, cond, ltb, List, [], ◌∷◌, ◌++◌, length, take, drop, map, Some, None, refl, sym, ap, ◌∙◌, arith}
use Rattle.std.specs.Prelude.{slice_get, ◌||◌, not, replicate, IfSome}
use Rattle.std.specs.List.{position, position_or_len}
use Rattle.std.proofs.Math.ListN.{set}
use Rattle.std.proofs.lemmas.Bool.{ltb-false}
use Rattle.std.proofs.lemmas.List.{set_past}
use Rattle.std.proofs.lemmas.List.Folds.{list_any-append}
use Rattle.relocs.specs.Places.{CodePlace, Nowhere, same_place, has}
use Rattle.lift_blocks.specs.declared.site.Site.{Site}
use Rattle.lift_blocks.specs.declared.site.Site.TheVariants as site
use Rattle.lift_blocks.specs.Kept.{site_of}
use Rattle.lift_blocks.specs.Listed.{place}
use Rattle.lift_blocks.specs.Rank.{rank_of, Ascends, is_that}
use Rattle.lift_blocks.specs.Marks.{with_mark, with_marks}
use Rattle.std.proofs.lemmas.Option.{slice_get-get_or}
use Rattle.lift_blocks.proofs.Finding.{place_same, other_rank, found}
use Rattle.lift_blocks.proofs.Order.{place_self}

or_false : (b : Bool) → (b || false) ≡ b
or_false true = refl
or_false false = refl

or_true : (b : Bool) → (b || true) ≡ true
or_true true = refl
or_true false = refl

or_assoc : (a b c : Bool) → ((a || b) || c) ≡ (a || (b || c))
or_assoc true b c = refl
or_assoc false b c = refl

-- no mark at all
pub unmarked : (places : List Site) → replicate (length places) false ≡ map (has []) (map site_of places)
unmarked [] = refl
unmarked (p ∷ places) = ap (λ l. false ∷ l) (unmarked places)

pub length_with_mark : (places : List CodePlace) (marks : List Bool) (p : CodePlace) → length marks ≡ length places → length (with_mark places marks p) ≡ length places
length_with_mark [] marks p e = refl
length_with_mark (q ∷ places) [] p e = absurd (omega (arith, e))
length_with_mark (q ∷ places) (b ∷ marks) p e = (let r = length_with_mark places marks p (omega (arith, e)) in omega (arith, r))

pub length_with_marks : (places : List CodePlace) (marks : List Bool) (these : List CodePlace) → length marks ≡ length places → length (with_marks places marks these) ≡ length places
length_with_marks places marks [] e = e
length_with_marks places marks (p ∷ these) e = length_with_marks places (with_mark places marks p) these (length_with_mark places marks p e)

-- marks that say which places are among some, with one more
has_more : (places these : List CodePlace) (p : CodePlace) → with_mark places (map (has these) places) p ≡ map (has (these ++ p ∷ [])) places
has_more [] these p = refl
has_more (q ∷ places) these p =
    let here : (has these q || same_place q p) ≡ has (these ++ p ∷ []) q = ap (λ b. has these q || b) (sym (or_false (same_place q p))) ∙ sym (list_any-append (same_place q) these (p ∷ [])) in
    rw (here, has_more places these p) refl

front : (these : List CodePlace) (p : CodePlace) (more : List CodePlace) → (these ++ p ∷ []) ++ more ≡ these ++ p ∷ more
front [] p more = refl
front (q ∷ these) p more = ap (λ l. q ∷ l) (front these p more)

nil_right : (these : List CodePlace) → these ++ [] ≡ these
nil_right [] = refl
nil_right (q ∷ these) = ap (λ l. q ∷ l) (nil_right these)

-- with many more
pub has_these : (places these more : List CodePlace) → with_marks places (map (has these) places) more ≡ map (has (these ++ more)) places
has_these places these [] = ap (λ l. map (has l) places) (sym (nil_right these))
has_these places these (p ∷ more) =
    ap (λ l. with_marks places l more) (has_more places these p) ∙ has_these places (these ++ p ∷ []) more ∙ ap (λ l. map (has l) places) (front these p more)

-- ---- one mark

other_place : (p q : CodePlace) → same_place p q ≡ false → same_place q p ≡ false
other_place p q e = by_test (same_place q p) refl
  where
    by_test : (b : Bool) → same_place q p ≡ b → same_place q p ≡ false
    by_test true f = (let same = place_same q p f in let self : same_place p q ≡ true = rw same (place_self p) in absurd cc)
    by_test false f = f

pub tail : (q : CodePlace) (places : List CodePlace) → Ascends (q ∷ places) → Ascends places
tail q places up = record { rises = λ i j a b l e f. up.rises (suc i) (suc j) a b (omega (arith, l)) e f }

-- a place that is not there marks nothing
none_marked : (places : List CodePlace) (marks : List Bool) (p : CodePlace) → length marks ≡ length places → ((k : ℕ) (q : CodePlace) → slice_get places k ≡ Some q → same_place p q ≡ false) → with_mark places marks p ≡ marks
none_marked [] [] p e none = refl
none_marked [] (b ∷ marks) p e none = absurd (omega (arith, e))
none_marked (q ∷ places) [] p e none = absurd (omega (arith, e))
none_marked (q ∷ places) (b ∷ marks) p e none =
    let other = other_place p q (none 0 q refl) in
    let rest = none_marked places marks p (omega (arith, e)) (λ k r f. none (suc k) r f) in
    rw (other, rest, or_false b) refl

-- where a place is found, or the number of all where it isn't
pub marked_at : (places : List CodePlace) (marks : List Bool) (p : CodePlace) → Ascends places → length marks ≡ length places → with_mark places marks p ≡ set marks (position_or_len (same_place p) places) true
marked_at [] [] p up e = refl
marked_at [] (b ∷ marks) p up e = absurd (omega (arith, e))
marked_at (q ∷ places) [] p up e = absurd (omega (arith, e))
marked_at (q ∷ places) (b ∷ marks) p up e = by_test (marked_at places marks p (tail q places up) (omega (arith, e))) (same_place p q) refl
  where
    by_test : with_mark places marks p ≡ set marks (position_or_len (same_place p) places) true → (t : Bool) → same_place p q ≡ t → with_mark (q ∷ places) (b ∷ marks) p ≡ set (b ∷ marks) (cond (not t) (1 + position_or_len (same_place p) places) 0) true
    by_test rest true f =
        let same = place_same p q f in
        let self : same_place q p ≡ true = rw same (place_self q) in
        let others = none_marked places marks p (omega (arith, e)) (λ k r g. other_rank p r (λ s. let l = up.rises 0 (suc k) q r (omega arith) refl g in let s' = ap rank_of same in omega (arith, l, s, s'))) in
        rw (self, others, or_true b) refl
    by_test rest false f =
        let other = other_place p q f in
        let next : 1 + position_or_len (same_place p) places ≡ suc (position_or_len (same_place p) places) = omega arith in
        rw (other, rest, next, or_false b) refl

position_is : (i n at : ℕ) → cond (ltb i n) (Some i) None ≡ Some at → i ≡ at
position_is i n at e = by_test (ltb i n) e
  where
    by_test : (b : Bool) → cond b (Some i) None ≡ Some at → i ≡ at
    by_test true e = cc
    by_test false e = absurd cc

position_past : (i n : ℕ) → cond (ltb i n) (Some i) None ≡ None → n ≤ i
position_past i n e = by_test (ltb i n) refl e
  where
    by_test : (b : Bool) → ltb i n ≡ b → cond b (Some i) None ≡ None → n ≤ i
    by_test true f e = absurd cc
    by_test false f e = ltb-false i n f

-- by what a search finds
pub marked_found : (places : List CodePlace) (marks : List Bool) (p : CodePlace) (at : ℕ) → Ascends places → length marks ≡ length places → position (same_place p) places ≡ Some at → with_mark places marks p ≡ set marks at true
marked_found places marks p at up e found = marked_at places marks p up e ∙ ap (λ i. set marks i true) (position_is (position_or_len (same_place p) places) (length places) at found)

pub marked_none : (places : List CodePlace) (marks : List Bool) (p : CodePlace) → Ascends places → length marks ≡ length places → position (same_place p) places ≡ None → with_mark places marks p ≡ marks
marked_none places marks p up e none =
    let past = position_past (position_or_len (same_place p) places) (length places) none in
    marked_at places marks p up e ∙ set_past marks (position_or_len (same_place p) places) true (omega (arith, past, e))

-- no place of a list is Nowhere
pub nowhere_marked : (places : List Site) (marks : List Bool) → length marks ≡ length places → with_mark (map site_of places) marks Nowhere ≡ marks
nowhere_marked [] [] e = refl
nowhere_marked [] (b ∷ marks) e = absurd (omega (arith, e))
nowhere_marked (p ∷ places) [] e = absurd (omega (arith, e))
nowhere_marked (site.Code o s offset ∷ places) (b ∷ marks) e = (let rest = nowhere_marked places marks (omega (arith, e)) in rw (rest, or_false b) refl)
nowhere_marked (site.Stub n at ∷ places) (b ∷ marks) e = (let rest = nowhere_marked places marks (omega (arith, e)) in rw (rest, or_false b) refl)

-- marks that were borrowed and written are those that were written
pub written : (new old : List Bool) (count : ℕ) → length new ≡ count → length old ≡ count → take count (new ++ drop (length new) old) ≡ new
written [] [] count n o = ap (λ k. take k []) (sym n)
written [] (b ∷ old) count n o = absurd (omega (arith, n, o))
written (b ∷ new) [] count n o = absurd (omega (arith, n, o))
written (b ∷ new) (c ∷ old) count n o =
    let rest = written new old (length new) refl (omega (arith, n, o)) in
    let at : count ≡ suc (length new) = sym n in
    rw at (ap (λ l. b ∷ l) rest)

-- the place with a number is marked at it
pub marked_number : (places : List CodePlace) (marks : List Bool) (n : ℕ) → Ascends places → length marks ≡ length places → n < length places → set marks n true ≡ with_mark places marks (place places n)
marked_number places marks n up e lt =
    let there = slice_get-get_or places n Nowhere lt in
    let that : is_that (place places n) (slice_get places n) ≡ true = rw there (place_self (get_or places n Nowhere)) in
    sym (marked_found places marks (place places n) n up e (found places (place places n) n up that))

-- a number that is below a count
pub some_within : (n : ℕ) (o : Option ℕ) → ((t : ℕ) → o ≡ Some t → t < n) → IfSome o (λ t. t < n)
some_within n None each = tt
some_within n (Some t) each = each t refl
