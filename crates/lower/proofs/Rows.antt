-- What operations with a zero give: the laws of the rows of lowering with x0.
use Rattle.std.proofs.Common.{◌≡◌, ℕ, suc, ◌-◌, ◌*◌, ◌/◌, ◌%◌, ◌^◌, ◌<◌, Bool, true, false, ℤ, pos, negsuc, ◌*ℤ◌, neg_ℤ, refl, sym, ap, ◌∙◌, arith}
use Rattle.std.specs.Prelude.{nat_eq, nat_lt, if◌then◌else◌, bit_and, bit_or, bit_xor}
use Rattle.std.specs.Int.{w32, w64, int_wrapping_div}
use Rattle.std.specs.Int.RustNames.{int_rem}
use Rattle.std.specs.Int.Bits.{and_zero_r, or_zero_r, xor_zero_r}
use Rattle.std.proofs.Math.Nat.{zero-div}
use Rattle.std.proofs.lemmas.Bool.Decides.{nat_tests}
use Rattle.numbers.specs.Words.{word_of, sum_64}
use Rattle.arithmetic.specs.Words.{low_32, extend_32, signed, signed_32, truth, sub_64, mul_64, add_32, sub_32, mul_32, div_u_64, div_s_64, rem_u_64, rem_s_64, shlo_l_64, shlo_r_64, shar_r_64, div_u_32, rem_u_32, div_s_32, rem_s_32, shlo_l_32, shlo_r_32, shar_r_32, mul_upper_u_u, mul_upper_s_s, mul_upper_s_u, set_lt_u}

-- a word and 0
pub sum_zero_r : (x : ℕ) → x < 2 ^ 64 → sum_64 x 0 ≡ x
sum_zero_r x h = omega arith

pub sub_zero_r : (x : ℕ) → x < 2 ^ 64 → sub_64 x 0 ≡ x
sub_zero_r x h = omega arith

pub or_zero : (x : ℕ) → x < 2 ^ 64 → bit_or x 0 ≡ x
or_zero x h = or_zero_r x

pub xor_zero : (x : ℕ) → x < 2 ^ 64 → bit_xor x 0 ≡ x
xor_zero x h = xor_zero_r x

pub shlo_l_zero_r : (x : ℕ) → x < 2 ^ 64 → shlo_l_64 x 0 ≡ x
shlo_l_zero_r x h = omega arith

pub shlo_r_zero_r : (x : ℕ) → x < 2 ^ 64 → shlo_r_64 x 0 ≡ x
shlo_r_zero_r x h = omega arith

pub shar_r_zero_r : (x : ℕ) → x < 2 ^ 64 → shar_r_64 x 0 ≡ x
shar_r_zero_r x h = grind (arith, nat_tests)

pub and_zero : (x : ℕ) → bit_and x 0 ≡ 0
and_zero x = and_zero_r x

pub mul_zero_r : (x : ℕ) → mul_64 x 0 ≡ 0
mul_zero_r x = omega arith

-- a number and 0
times_zero : (z : ℤ) → z *ℤ pos 0 ≡ pos 0
times_zero (pos n) = let e : n * 0 ≡ 0 = omega arith in ap (λ m. pos m) e
times_zero (negsuc n) = let e : suc n * 0 ≡ 0 = omega arith in ap (λ m. neg_ℤ (pos m)) e

pub upper_s_s_zero_r : (x : ℕ) → mul_upper_s_s x 0 ≡ 0
upper_s_s_zero_r x = rw (times_zero (signed x)) refl

pub upper_s_u_zero_r : (x : ℕ) → mul_upper_s_u x 0 ≡ 0
upper_s_u_zero_r x = rw (times_zero (signed x)) refl

pub upper_u_u_zero_r : (x : ℕ) → mul_upper_u_u x 0 ≡ 0
upper_u_u_zero_r x = omega arith

pub mul_32_zero_r : (x : ℕ) → mul_32 x 0 ≡ 0
mul_32_zero_r x = grind (arith, nat_tests)

pub less_zero : (x : ℕ) → set_lt_u x 0 ≡ 0
less_zero x = grind (arith, nat_tests)

-- the low 32 bits of a word and 0
pub sub_32_zero_r : (x : ℕ) → sub_32 x 0 ≡ add_32 x 0
sub_32_zero_r x = grind (arith, nat_tests)

pub rem_32_zero_r : (x : ℕ) → extend_32 x ≡ add_32 x 0
rem_32_zero_r x = grind (arith, nat_tests)

pub shlo_l_32_zero_r : (x : ℕ) → shlo_l_32 x 0 ≡ add_32 x 0
shlo_l_32_zero_r x = grind (arith, nat_tests)

pub shlo_r_32_zero_r : (x : ℕ) → shlo_r_32 x 0 ≡ add_32 x 0
shlo_r_32_zero_r x = grind (arith, nat_tests)

pub shar_r_32_zero_r : (x : ℕ) → shar_r_32 x 0 ≡ add_32 x 0
shar_r_32_zero_r x = grind (arith, nat_tests)

-- 0 and a word
pub sum_zero_l : (x : ℕ) → x < 2 ^ 64 → sum_64 0 x ≡ x
sum_zero_l x h = omega arith

pub zero_shlo_l : (x : ℕ) → shlo_l_64 0 x ≡ 0
zero_shlo_l x = omega arith

pub zero_shlo_r : (x : ℕ) → shlo_r_64 0 x ≡ 0
zero_shlo_r x = zero-div (2 ^ (x % 64))

pub zero_shar_r : (x : ℕ) → shar_r_64 0 x ≡ 0
zero_shar_r x = zero-div (2 ^ (x % 64))

pub zero_mul : (x : ℕ) → mul_64 0 x ≡ 0
zero_mul x = omega arith

zero_times : (z : ℤ) → pos 0 *ℤ z ≡ pos 0
zero_times (pos n) = let e : 0 * n ≡ 0 = omega arith in ap (λ m. pos m) e
zero_times (negsuc n) = let e : 0 * suc n ≡ 0 = omega arith in ap (λ m. neg_ℤ (pos m)) e

pub zero_upper_s_s : (x : ℕ) → mul_upper_s_s 0 x ≡ 0
zero_upper_s_s x = rw (zero_times (signed x)) refl

pub zero_upper_s_u : (x : ℕ) → mul_upper_s_u 0 x ≡ 0
zero_upper_s_u x = let e : 0 * x ≡ 0 = omega arith in rw e refl

pub zero_upper_u_u : (x : ℕ) → mul_upper_u_u 0 x ≡ 0
zero_upper_u_u x = omega arith

pub zero_mul_32 : (x : ℕ) → mul_32 0 x ≡ 0
zero_mul_32 x = grind (arith, nat_tests)

pub zero_add_32 : (x : ℕ) → add_32 0 x ≡ add_32 x 0
zero_add_32 x = grind (arith, nat_tests)

-- a remainder of 0
zero_rem : (z : ℤ) → word_of (int_rem (pos 0) z) ≡ 0
zero_rem z = omega arith

pub zero_rem_s : (x : ℕ) → rem_s_64 0 x ≡ 0
zero_rem_s x = by_test (nat_eq x 0)
  where
    by_test : (b : Bool) → (if b then 0 else word_of (int_rem (pos 0) (signed x))) ≡ 0
    by_test true = refl
    by_test false = zero_rem (signed x)

pub zero_rem_u : (x : ℕ) → rem_u_64 0 x ≡ 0
zero_rem_u x = grind (arith, nat_tests)

pub zero_rem_s_32 : (x : ℕ) → rem_s_32 0 x ≡ 0
zero_rem_s_32 x = by_test (nat_eq (low_32 x) 0)
  where
    by_test : (b : Bool) → (if b then 0 else word_of (int_rem (pos 0) (signed_32 x))) ≡ 0
    by_test true = refl
    by_test false = zero_rem (signed_32 x)

pub zero_rem_u_32 : (x : ℕ) → rem_u_32 0 x ≡ 0
zero_rem_u_32 x = grind (arith, nat_tests)

-- shifts of the low 32 bits of 0
pub zero_shlo_l_32 : (x : ℕ) → shlo_l_32 0 x ≡ 0
zero_shlo_l_32 x = grind (arith, nat_tests)

pub zero_shlo_r_32 : (x : ℕ) → shlo_r_32 0 x ≡ 0
zero_shlo_r_32 x = rw (zero-div (2 ^ (x % 32))) refl

pub zero_shar_r_32 : (x : ℕ) → shar_r_32 0 x ≡ 0
zero_shar_r_32 x = rw (zero-div (2 ^ (x % 32))) refl

-- a quotient of 0: all ones where the divisor is 0, and else 0
zero_quot_64 : (z : ℤ) → word_of (int_wrapping_div w64 (pos 0) z) ≡ 0
zero_quot_64 (pos n) = rw (zero-div n) refl
zero_quot_64 (negsuc n) = rw (zero-div (suc n)) refl

zero_quot_32 : (z : ℤ) → word_of (int_wrapping_div w32 (pos 0) z) ≡ 0
zero_quot_32 (pos n) = rw (zero-div n) refl
zero_quot_32 (negsuc n) = rw (zero-div (suc n)) refl

-- such a choice, by a test
ones : (b : Bool) (q : ℕ) → q ≡ 0 → (if b then 2 ^ 64 - 1 else q) ≡ sub_64 0 (truth b)
ones true q e = refl
ones false q e = e

one_or_none : (x : ℕ) → nat_lt x 1 ≡ nat_eq x 0
one_or_none x = grind (arith, nat_tests)

pub zero_div_u : (x : ℕ) → div_u_64 0 x ≡ sub_64 0 (set_lt_u x 1)
zero_div_u x = ones (nat_eq x 0) (0 / x) (zero-div x) ∙ ap (λ b. sub_64 0 (truth b)) (sym (one_or_none x))

pub zero_div_s : (x : ℕ) → div_s_64 0 x ≡ sub_64 0 (set_lt_u x 1)
zero_div_s x = ones (nat_eq x 0) (word_of (int_wrapping_div w64 (pos 0) (signed x))) (zero_quot_64 (signed x)) ∙ ap (λ b. sub_64 0 (truth b)) (sym (one_or_none x))

low_is_zero : (x : ℕ) → nat_eq (low_32 x) 0 ≡ nat_lt (add_32 x 0) 1
low_is_zero x = grind (arith, nat_tests)

pub zero_div_u_32 : (x : ℕ) → div_u_32 0 x ≡ sub_64 0 (set_lt_u (add_32 x 0) 1)
zero_div_u_32 x = ones (nat_eq (low_32 x) 0) (extend_32 (0 / low_32 x)) (rw (zero-div (low_32 x)) refl) ∙ ap (λ b. sub_64 0 (truth b)) (low_is_zero x)

pub zero_div_s_32 : (x : ℕ) → div_s_32 0 x ≡ sub_64 0 (set_lt_u (add_32 x 0) 1)
zero_div_s_32 x = ones (nat_eq (low_32 x) 0) (word_of (int_wrapping_div w32 (pos 0) (signed_32 x))) (zero_quot_32 (signed_32 x)) ∙ ap (λ b. sub_64 0 (truth b)) (low_is_zero x)
