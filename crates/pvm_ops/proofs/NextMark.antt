-- Where operands end, by the bits of a number that begins at a position.
use Rattle.std.proofs.Common.{◌≡◌, ℕ, ◌+◌, ◌-◌, ◌*◌, ◌/◌, ◌%◌, ◌^◌, ◌<◌, ◌≤◌, ◌≢◌, true, false, arith, refl, sym, ap, ◌∙◌, length, max, nat_eq, inl, inr}
use Rattle.std.specs.Int.{bit_at, w64, trailing_zeros}
use Rattle.std.specs.Int.RustNames.{bit_or}
use Rattle.std.proofs.lemmas.Nat.Bits.{bit_at_lowest, bit_at-lt, bit_at-zero, bit_at-trailing_zeros, bit_at_set_same, bit_at_set_other, bit_at_or, bit_at_mask_below, bit_at_mask_inside}
use Rattle.std.proofs.lemmas.Bool.{cases_lt}
use Rattle.std.proofs.lemmas.Bool.Decides.{nat_tests}
use Rattle.std.proofs.Math.Nat.{div-div-eq-div-mul, pow-le-pow_right}
use Rattle.std.proofs.lemmas.Nat.{pow-add, or_lt}
use Rattle.pvm_ops.specs.Listing.{Listing, bit_of, is_marked, is_stop, skip, HasMarks}
use Rattle.pvm_ops.proofs.Skipping.{run_before-is}

-- a bit of a number that was shifted down
pub bit_at-shr : (n s j : ℕ) → bit_at (n / 2 ^ s) j ≡ bit_at n (s + j)
bit_at-shr n s j = ap (λ x. x % 2) (div-div-eq-div-mul n (2 ^ s) (2 ^ j) ∙ ap (λ p. n / p) (sym (pow-add 2 s j)))

-- the lowest place that is set, where place 24 is set besides
pub record Lowest (marks place : ℕ) : Type 0 where
  pub bound : place ≤ 24
  pub below : (j : ℕ) → j < place → bit_at marks j ≡ 0
  pub here : place < 24 → bit_at marks place ≡ 1

pub lowest : (marks : ℕ) → marks < 2 ^ 64 → Lowest marks (trailing_zeros w64 (bit_or marks (1 * 2 ^ 24 % 2 ^ 64)))
lowest marks small =
    let n = bit_or marks (1 * 2 ^ 24 % 2 ^ 64) in
    let fits : n < 2 ^ 64 = or_lt 64 marks (1 * 2 ^ 24 % 2 ^ 64) small (omega arith) in
    let guard : bit_at n 24 ≡ 1 = bit_at_set_same w64 marks 24 (omega arith) in
    let other : (j : ℕ) → j ≢ 24 → bit_at n j ≡ bit_at marks j = λ j apart. bit_at_set_other w64 marks 24 (omega arith) j apart in
    let some : 0 < n = elim (cases_lt 0 n) [
      | inl pos ↦ pos
      | inr none ↦ (let is_zero : n ≡ 0 = omega arith in let no : bit_at n 24 ≡ 0 = ap (λ x. bit_at x 24) is_zero ∙ bit_at-zero 24 in absurd (omega (arith, no, guard)))
    ] in
    let first = bit_at-trailing_zeros w64 n some fits in
    let place = trailing_zeros w64 n in
    let bound : place ≤ 24 = elim (cases_lt 24 place) [
      | inl past ↦ absurd (omega (arith, first.2 24 past, guard))
      | inr near ↦ near
    ] in
    record {
      bound = bound;
      below = λ j l. sym (other j (λ e. omega arith)) ∙ first.2 j l;
      here = λ l. sym (other place (λ e. omega arith)) ∙ first.1;
    }

not_set : (b : ℕ) → b ≡ 0 → nat_eq b 1 ≡ false
not_set b e = rw e refl

set : (b : ℕ) → b ≡ 1 → nat_eq b 1 ≡ true
set b e = rw e refl

-- the operands end at the lowest mark after the position's own
pub skip-is : (code : Listing) (at marks place : ℕ) → HasMarks code at marks 25 → Lowest (marks / 2) place → skip code at ≡ place
skip-is code at marks place has l =
    let bound = l.bound in
    run_before-is (is_stop code) 24 (at + 1) place (omega arith) before after
  where
    next : (j : ℕ) → j < 24 → nat_eq (bit_at (marks / 2) j) 1 ≡ is_stop code (at + 1 + j)
    next j near =
        let there : at + (1 + j) ≡ at + 1 + j = omega arith in
        ap (λ b. nat_eq b 1) (bit_at-shr marks 1 j) ∙ has (1 + j) (omega arith) ∙ ap (is_stop code) there

    before : (p : ℕ) → at + 1 ≤ p → p < at + 1 + place → is_stop code p ≡ false
    before p a b =
        let j = p - (at + 1) in
        let there : at + 1 + j ≡ p = omega arith in
        let bound = l.bound in
        ap (is_stop code) (sym there) ∙ sym (next j (omega arith)) ∙ not_set _ (l.below j (omega arith))

    after : (p : ℕ) → p ≡ at + 1 + place → place < 24 → is_stop code p ≡ true
    after p e less = ap (is_stop code) e ∙ sym (next place less) ∙ set _ (l.here less)

one_bit : (b : ℕ) → b < 2 → b % 2 ≢ 0 → b ≡ 1
one_bit b l h = elim (cases_lt 0 b) [
  | inl pos ↦ omega arith
  | inr none ↦ absurd (h (omega arith))
]

-- the lowest of the marks from a position on says whether it is marked
pub first_is_marked : (code : Listing) (at marks : ℕ) → at < length code.bytes → HasMarks code at marks 25 → marks % 2 ≢ 0 → is_marked code at ≡ true
first_is_marked code at marks inside has odd =
    let here : at + 0 ≡ at = omega arith in
    let bit : bit_at marks 0 ≡ 1 = bit_at_lowest marks ∙ omega (arith, odd) in
    let stops : is_stop code at ≡ true = ap (is_stop code) (sym here) ∙ sym (has 0 (omega arith)) ∙ set _ bit in
    grind (arith, nat_tests)

pub first_is_not_marked : (code : Listing) (at marks : ℕ) → at < length code.bytes → HasMarks code at marks 25 → marks % 2 ≡ 0 → is_marked code at ≡ false
first_is_not_marked code at marks inside has even =
    let here : at + 0 ≡ at = omega arith in
    let bit : bit_at marks 0 ≡ 0 = bit_at_lowest marks ∙ even in
    let goes_on : is_stop code at ≡ false = ap (is_stop code) (sym here) ∙ sym (has 0 (omega arith)) ∙ not_set _ bit in
    grind (arith, nat_tests)

-- marks that are shifted down begin further on
pub shifted_marks : (code : Listing) (start at marks n m : ℕ) → start ≤ at → at - start + m ≤ n → HasMarks code start marks n → HasMarks code at (marks / 2 ^ (at - start)) m
shifted_marks code start at marks n m far fit has j l =
    let there : start + (at - start + j) ≡ at + j = omega arith in
    ap (λ b. nat_eq b 1) (bit_at-shr marks (at - start) j) ∙ has (at - start + j) (omega arith) ∙ ap (is_stop code) there

-- the bits of a mask are marks as far as the code goes
pub window_marks : (code : Listing) (start marks n : ℕ) → start + n ≤ length code.bytes → ((j : ℕ) → j < n → bit_at marks j ≡ bit_of code.mask (start + j)) → HasMarks code start marks n
window_marks code start marks n inside bits j l =
    let near : start + j < length code.bytes = omega arith in
    let bit : bit_at marks j ≡ bit_of code.mask (start + j) = bits j l in
    grind (arith, nat_tests)

ones_after : (p : ℕ) → 1 ≤ p → p ≤ 2 ^ 32 → 18446744073709551615 * p % 2 ^ 64 ≡ 2 ^ 64 - p
ones_after p some few = omega arith

greater_bit : (a b : ℕ) → a < 2 → b ≡ 1 → max a b ≡ 1
greater_bit a b l e = omega arith

first_bit : (a b : ℕ) → b ≡ 0 → max a b ≡ a
first_bit a b e = omega arith

-- and with ones after the code they are marks for ever
pub marks_with_ones : (code : Listing) (last marks k : ℕ) → last + k ≡ length code.bytes → k ≤ 32 → ((j : ℕ) → j < 32 → bit_at marks j ≡ bit_of code.mask (last + j)) →
    HasMarks code last (bit_or marks (18446744073709551615 * 2 ^ k % 2 ^ 64)) 64
marks_with_ones code last marks k all few bits j l =
    let some : 1 ≤ 2 ^ k = pow-le-pow_right {n = 2} (omega arith) {i = 0} {j = k} (omega arith) in
    let most : 2 ^ k ≤ 2 ^ 32 = pow-le-pow_right {n = 2} (omega arith) {i = k} {j = 32} few in
    let ones : 18446744073709551615 * 2 ^ k % 2 ^ 64 ≡ 2 ^ 64 - 2 ^ k = ones_after (2 ^ k) some most in
    let parts : bit_at (bit_or marks (18446744073709551615 * 2 ^ k % 2 ^ 64)) j ≡ max (bit_at marks j) (bit_at (2 ^ 64 - 2 ^ k) j) = bit_at_or marks _ j ∙ ap (λ n. max (bit_at marks j) (bit_at n j)) ones in
    elim (cases_lt j k) [
      | inl low ↦
          (let bit : bit_at (bit_or marks (18446744073709551615 * 2 ^ k % 2 ^ 64)) j ≡ bit_of code.mask (last + j) = parts ∙ first_bit _ _ (bit_at_mask_below k 64 j low) ∙ bits j (omega arith) in
          let near : last + j < length code.bytes = omega arith in
          grind (arith, nat_tests))
      | inr high ↦
          (let bit : bit_at (bit_or marks (18446744073709551615 * 2 ^ k % 2 ^ 64)) j ≡ 1 = parts ∙ greater_bit _ _ (bit_at-lt marks j) (bit_at_mask_inside k 64 j high l) in
          let past : length code.bytes ≤ last + j = omega arith in
          grind (arith, nat_tests))
    ]
