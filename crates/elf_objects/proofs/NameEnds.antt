-- The end of a name, by a part of the table and by what follows that part.
use Rattle.std.proofs.Common.{◌≡◌, ◌==◌, ◌<◌, ◌≤◌, ◌+◌, ◌-◌, ◌*◌, not, cond, nat_lt, Bool, true, false, refl, arith, ℕ, zero, suc, List, [], ◌∷◌, length, take, drop, Some, None, length-drop}
use Rattle.std.specs.List.{position, position_or_len}
use Rattle.std.specs.Option.{unwrap_or}
use Rattle.std.proofs.lemmas.Bool.{ltb-true}
use Rattle.std.proofs.lemmas.Bool.Decides.{nat_tests}
use Rattle.std.proofs.lemmas.List.{drop-drop}
use Rattle.elf_objects.specs.Contents.{name_at}
use Rattle.elf_objects.specs.NameEnds.{name_end, block_start}

module _ (p : ℕ → Bool) where
  short : (xs : List ℕ) → position_or_len p xs ≤ length xs
  short [] = omega arith
  short (x ∷ xs) = by (p x) (short xs)
    where
      by : (b : Bool) → position_or_len p xs ≤ length xs → cond (not b) (1 + position_or_len p xs) 0 ≤ suc (length xs)
      by true h = omega arith
      by false h = omega arith

  -- what is found in the first n elements is found first
  found_in : (n : ℕ) (xs : List ℕ) → position_or_len p (take n xs) < length (take n xs) → position_or_len p xs ≡ position_or_len p (take n xs)
  found_in zero xs h = absurd (omega arith)
  found_in (suc n) [] h = refl
  found_in (suc n) (x ∷ xs) h = by (p x) h (found_in n xs)
    where
      by : (b : Bool) → cond (not b) (1 + position_or_len p (take n xs)) 0 < suc (length (take n xs))
          → (position_or_len p (take n xs) < length (take n xs) → position_or_len p xs ≡ position_or_len p (take n xs))
          → cond (not b) (1 + position_or_len p xs) 0 ≡ cond (not b) (1 + position_or_len p (take n xs)) 0
      by true l rest = refl
      by false l rest = let e = rest (omega arith) in omega (arith, e)

  -- where the first n elements have none, the others decide
  found_past : (n : ℕ) (xs : List ℕ) → n ≤ length xs → length (take n xs) ≤ position_or_len p (take n xs) → position_or_len p xs ≡ n + position_or_len p (drop n xs)
  found_past zero xs le h = omega arith
  found_past (suc n) [] le h = absurd (omega arith)
  found_past (suc n) (x ∷ xs) le h = by (p x) h (found_past n xs (omega arith))
    where
      by : (b : Bool) → suc (length (take n xs)) ≤ cond (not b) (1 + position_or_len p (take n xs)) 0
          → (length (take n xs) ≤ position_or_len p (take n xs) → position_or_len p xs ≡ n + position_or_len p (drop n xs))
          → cond (not b) (1 + position_or_len p xs) 0 ≡ suc n + position_or_len p (drop n xs)
      by true l rest = absurd (omega arith)
      by false l rest = let e = rest (omega arith) in omega (arith, e)

  position_is : (xs : List ℕ) (k : ℕ) → position p xs ≡ Some k → (position_or_len p xs ≡ k) × (position_or_len p xs < length xs)
  position_is xs k e = by (nat_lt (position_or_len p xs) (length xs)) refl e
    where
      by : (b : Bool) → nat_lt (position_or_len p xs) (length xs) ≡ b → cond b (Some (position_or_len p xs)) None ≡ Some k → (position_or_len p xs ≡ k) × (position_or_len p xs < length xs)
      by true l is = (cc, ltb-true _ _ l)
      by false l is = cc

  position_none : (xs : List ℕ) → position p xs ≡ None → length xs ≤ position_or_len p xs
  position_none xs e = by (nat_lt (position_or_len p xs) (length xs)) refl e
    where
      by : (b : Bool) → nat_lt (position_or_len p xs) (length xs) ≡ b → cond b (Some (position_or_len p xs)) None ≡ None → length xs ≤ position_or_len p xs
      by true l is = cc
      by false l is = grind (arith, nat_tests)

  first_or_len : (xs : List ℕ) → unwrap_or (position p xs) (length xs) ≡ position_or_len p xs
  first_or_len xs = by (nat_lt (position_or_len p xs) (length xs)) refl
    where
      by : (b : Bool) → nat_lt (position_or_len p xs) (length xs) ≡ b → unwrap_or (cond b (Some (position_or_len p xs)) None) (length xs) ≡ position_or_len p xs
      by true l = refl
      by false l = let le = short xs in grind (arith, nat_tests)

-- a name ends within the table, and not before it begins
pub name_end-within : (table : List ℕ) (at : ℕ) → at ≤ length table → name_end table at ≤ length table
unfolding name_end
name_end-within table at le = omega (arith, short (λ x. x == 0) (drop at table), length-drop at table)

pub name_end-after : (table : List ℕ) (at : ℕ) → at ≤ name_end table at
unfolding name_end
name_end-after table at = omega arith

-- a 00 in a part of the table ends the name at the part's start
pub name_end-found : (table : List ℕ) (at n k : ℕ) → position (λ x. x == 0) (take n (drop at table)) ≡ Some k → at + k ≡ name_end table at
unfolding name_end
name_end-found table at n k e =
    let here = position_is (λ x. x == 0) (take n (drop at table)) k e in
    let same = found_in (λ x. x == 0) n (drop at table) here.1 in
    omega (arith, same, here.0)

-- if it has none, the name ends where the one after the part does
pub name_end-past : (table : List ℕ) (at to n : ℕ) → at + n ≡ to → to ≤ length table → position (λ x. x == 0) (take n (drop at table)) ≡ None → name_end table to ≡ name_end table at
unfolding name_end
name_end-past table at to n is le e =
    let inside : n ≤ length (drop at table) = omega (arith, length-drop at table) in
    let same = found_past (λ x. x == 0) n (drop at table) inside (position_none (λ x. x == 0) (take n (drop at table)) e) in
    let later : drop n (drop at table) ≡ drop to table = rw (← is) (drop-drop n at table) in
    let now = rw later at same in
    omega (arith, now)

-- the bytes from a place to the end of its name are the name
pub name_at-ends : (table : List ℕ) (at : ℕ) → take (name_end table at - at) (drop at table) ≡ name_at table at
unfolding name_end name_at
name_at-ends table at =
    let e = first_or_len (λ x. x == 0) (drop at table) in
    let long : at + position_or_len (λ x. x == 0) (drop at table) - at ≡ position_or_len (λ x. x == 0) (drop at table) = omega arith in
    rw (e, long) refl

-- past the last block a name ends where the table does
pub name_end-last : (table : List ℕ) (block : ℕ) → length table ≤ 64 * block → name_end table (block_start table block) ≡ length table
name_end-last table block le =
    let at : block_start table block ≡ length table = omega arith in
    rw at (omega (arith, name_end-within table (length table) (omega arith), name_end-after table (length table)))
