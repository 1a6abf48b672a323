-- What an operation on two words gives is a word.
use Rattle.std.proofs.Common.{ℕ, zero, suc, ◌+◌, ◌-◌, ◌*◌, ◌/◌, ◌%◌, ◌^◌, ◌<◌, ◌≤◌, Bool, true, false, ℤ, pos, negsuc, ◌*ℤ◌, neg_ℤ, arith}
use Rattle.std.specs.Prelude.{nat_eq, nat_lt, if◌then◌else◌, bit_or}
use Rattle.std.specs.Int.{w32, w64, cast_signed, cast_unsigned, int_shr, int_wrapping_div, bit_not, rotate_left, rotate_right}
use Rattle.std.specs.Int.RustNames.{int_lt, int_rem, int_div}
use Rattle.std.specs.Int.Signed.{mag, mag_rem, mag_shr}
use Rattle.std.proofs.Math.Nat.{div-le_self, mod-le}
use Rattle.std.proofs.lemmas.Nat.{and_le_l, or_lt, xor_lt, mul-le}
use Rattle.std.proofs.lemmas.Bool.Decides.{nat_tests}
use Rattle.numbers.specs.Words.{word_of}
use Rattle.arithmetic.specs.Words.{low_32, extend_32, signed, signed_32, truth, mul_upper_u_u}
use Rattle.arithmetic.specs.Laws.{ResultsAreWords}
use Rattle.arithmetic.specs.declared.operations.Binary.TheVariants.{Add32, Sub32, Mul32, DivU32, DivS32, RemU32, RemS32, ShloL32, ShloR32, SharR32, Add64, Sub64, Mul64, DivU64, DivS64, RemU64, RemS64, ShloL64, ShloR64, SharR64, And, Xor, Or, MulUpperSS, MulUpperUU, MulUpperSU, SetLtU, SetLtS, RotL64, RotL32, RotR64, RotR32, AndInv, OrInv, Xnor, Max, MaxU, Min, MinU}

-- an extended number, a truth, and one of two words
extend_fits : (a : ℕ) → extend_32 a < 2 ^ 64
extend_fits a = grind (arith, nat_tests)

truth_fits : (b : Bool) → truth b < 2 ^ 64
truth_fits true = omega arith
truth_fits false = omega arith

either_fits : (b : Bool) (x y : ℕ) → x < 2 ^ 64 → y < 2 ^ 64 → (if b then x else y) < 2 ^ 64
either_fits true x y p q = p
either_fits false x y p q = q

-- a signed number that is small enough for its bits
word_fits : (z : ℤ) → mag z < 2 ^ 64 → word_of z < 2 ^ 64
word_fits (pos n) h = h
word_fits (negsuc n) h = omega arith

mag_signed : (a : ℕ) → a < 2 ^ 64 → mag (signed a) < 2 ^ 63
mag_signed a h = grind (arith, nat_tests)

mag_signed_32 : (a : ℕ) → mag (signed_32 a) < 2 ^ 31
mag_signed_32 a = grind (arith, nat_tests)

-- quotients, which wrap
mag_wrapped_64 : (n : ℕ) → mag (cast_signed w64 n) < 2 ^ 64
mag_wrapped_64 n = grind (arith, nat_tests)

mag_wrapped_32 : (n : ℕ) → mag (cast_signed w32 n) < 2 ^ 64
mag_wrapped_32 n = grind (arith, nat_tests)

-- remainders and shifts are no greater than what they are of
rem_fits : (x y : ℤ) → mag x < 2 ^ 63 → word_of (int_rem x y) < 2 ^ 64
rem_fits x y h = word_fits (int_rem x y) (omega (arith, mag_rem x y))

shifted_fits : (x : ℤ) (k : ℕ) → mag x < 2 ^ 63 → word_of (int_shr x k) < 2 ^ 64
shifted_fits x k h = word_fits (int_shr x k) (omega (arith, mag_shr x (2 ^ k)))

-- its negation is no greater
mag_neg : (n : ℕ) → mag (neg_ℤ (pos n)) ≤ n
mag_neg zero = omega arith
mag_neg (suc n) = omega arith

-- the high half of a number of 126 bits
upper_fits : (z : ℤ) → mag z < 2 ^ 128 → word_of (int_shr z 64) < 2 ^ 64
upper_fits (pos n) h = omega arith
upper_fits (negsuc n) h = omega arith

-- products of numbers whose size is known
mag_product : (x y : ℤ) → mag x < 2 ^ 63 → mag y < 2 ^ 64 → mag (x *ℤ y) < 2 ^ 128
mag_product (pos a) (pos b) p q = omega (arith, mul-le a b (2 ^ 63) (2 ^ 64) (omega arith) (omega arith))
mag_product (pos a) (negsuc b) p q = omega (arith, mag_neg (a * suc b), mul-le a (suc b) (2 ^ 63) (2 ^ 64) (omega arith) (omega arith))
mag_product (negsuc a) (pos b) p q = omega (arith, mag_neg (suc a * b), mul-le (suc a) b (2 ^ 63) (2 ^ 64) (omega arith) (omega arith))
mag_product (negsuc a) (negsuc b) p q = omega (arith, mul-le (suc a) (suc b) (2 ^ 63) (2 ^ 64) (omega arith) (omega arith))

-- the product of two words
product_fits : (a b : ℕ) → a < 2 ^ 64 → b < 2 ^ 64 → mul_upper_u_u a b < 2 ^ 64
product_fits a b p q = omega (arith, mul-le a b (2 ^ 64 - 1) (2 ^ 64 - 1) (omega arith) (omega arith))

-- two parts of a rotated word, one over the other
rotated_fits : (a m n : ℕ) → a < 2 ^ 64 → bit_or ((a * m) % 2 ^ 64) (a / n) < 2 ^ 64
rotated_fits a m n h = or_lt 64 ((a * m) % 2 ^ 64) (a / n) (omega arith) (omega (arith, div-le_self a n))

rotated_back_fits : (a m n : ℕ) → a < 2 ^ 64 → bit_or (a / n) ((a * m) % 2 ^ 64) < 2 ^ 64
rotated_back_fits a m n h = or_lt 64 (a / n) ((a * m) % 2 ^ 64) (omega (arith, div-le_self a n)) (omega arith)

pub results_are_words : ResultsAreWords
results_are_words Add32 a b p q = extend_fits (a + b)
results_are_words Sub32 a b p q = extend_fits (a + (2 ^ 64 - b))
results_are_words Mul32 a b p q = extend_fits (a * b)
results_are_words DivU32 a b p q = either_fits (nat_eq (low_32 b) 0) (2 ^ 64 - 1) (extend_32 (low_32 a / low_32 b)) (omega arith) (extend_fits (low_32 a / low_32 b))
results_are_words DivS32 a b p q = either_fits (nat_eq (low_32 b) 0) (2 ^ 64 - 1) _ (omega arith) (word_fits (int_wrapping_div w32 (signed_32 a) (signed_32 b)) (mag_wrapped_32 (cast_unsigned w32 (int_div (signed_32 a) (signed_32 b)))))
results_are_words RemU32 a b p q = either_fits (nat_eq (low_32 b) 0) (extend_32 a) (extend_32 (low_32 a % low_32 b)) (extend_fits a) (extend_fits (low_32 a % low_32 b))
results_are_words RemS32 a b p q = either_fits (nat_eq (low_32 b) 0) (extend_32 a) (word_of (int_rem (signed_32 a) (signed_32 b))) (extend_fits a) (rem_fits (signed_32 a) (signed_32 b) (omega (arith, mag_signed_32 a)))
results_are_words ShloL32 a b p q = extend_fits (low_32 a * 2 ^ (b % 32))
results_are_words ShloR32 a b p q = extend_fits (low_32 a / 2 ^ (b % 32))
results_are_words SharR32 a b p q = shifted_fits (signed_32 a) (b % 32) (omega (arith, mag_signed_32 a))
results_are_words Add64 a b p q = omega arith
results_are_words Sub64 a b p q = omega arith
results_are_words Mul64 a b p q = omega arith
results_are_words DivU64 a b p q = either_fits (nat_eq b 0) (2 ^ 64 - 1) (a / b) (omega arith) (omega (arith, div-le_self a b))
results_are_words DivS64 a b p q = either_fits (nat_eq b 0) (2 ^ 64 - 1) _ (omega arith) (word_fits (int_wrapping_div w64 (signed a) (signed b)) (mag_wrapped_64 (cast_unsigned w64 (int_div (signed a) (signed b)))))
results_are_words RemU64 a b p q = either_fits (nat_eq b 0) a (a % b) p (omega (arith, mod-le a b))
results_are_words RemS64 a b p q = either_fits (nat_eq b 0) a (word_of (int_rem (signed a) (signed b))) p (rem_fits (signed a) (signed b) (mag_signed a p))
results_are_words ShloL64 a b p q = omega arith
results_are_words ShloR64 a b p q = omega (arith, div-le_self a (2 ^ (b % 64)))
results_are_words SharR64 a b p q = shifted_fits (signed a) (b % 64) (mag_signed a p)
results_are_words And a b p q = omega (arith, and_le_l a b)
results_are_words Xor a b p q = xor_lt 64 a b p q
results_are_words Or a b p q = or_lt 64 a b p q
results_are_words MulUpperSS a b p q = upper_fits (signed a *ℤ signed b) (mag_product (signed a) (signed b) (mag_signed a p) (omega (arith, mag_signed b q)))
results_are_words MulUpperUU a b p q = product_fits a b p q
results_are_words MulUpperSU a b p q = upper_fits (signed a *ℤ pos b) (mag_product (signed a) (pos b) (mag_signed a p) q)
results_are_words SetLtU a b p q = truth_fits (nat_lt a b)
results_are_words SetLtS a b p q = truth_fits (int_lt (signed a) (signed b))
results_are_words RotL64 a b p q = rotated_fits a _ _ p
results_are_words RotL32 a b p q = extend_fits (rotate_left w32 (low_32 a) (b % 32))
results_are_words RotR64 a b p q = rotated_back_fits a _ _ p
results_are_words RotR32 a b p q = extend_fits (rotate_right w32 (low_32 a) (b % 32))
results_are_words AndInv a b p q = omega (arith, and_le_l a (bit_not w64 b))
results_are_words OrInv a b p q = or_lt 64 a (bit_not w64 b) p (omega arith)
results_are_words Xnor a b p q = omega arith
results_are_words Max a b p q = either_fits (int_lt (signed a) (signed b)) b a q p
results_are_words MaxU a b p q = omega arith
results_are_words Min a b p q = either_fits (int_lt (signed b) (signed a)) b a q p
results_are_words MinU a b p q = omega arith
