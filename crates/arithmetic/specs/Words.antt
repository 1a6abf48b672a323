-- What operations on words of 64 bits give (RISC-V unprivileged manual, RV64I and the extension M). A word is a number
-- below 2^64, a signed number being kept in two's complement.
use Rattle.std.specs.Prelude.{ℕ, ℤ, pos, ◌+◌, ◌-◌, ◌*◌, ◌/◌, ◌%◌, ◌^◌, ◌*ℤ◌, Bool, nat_eq, nat_lt, if◌then◌else◌, bit_and, bit_or, bit_xor}
use Rattle.std.specs.Int.{w32, w64, cast_signed, int_shr, bit_not, int_wrapping_div}
use Rattle.std.specs.Int.RustNames.{int_lt, int_rem}
use Rattle.numbers.specs.Words.{sign_extend, word_of}

-- a word read with its sign
abbrev pub signed : ℕ → ℤ
signed a = cast_signed w64 a

-- the low 32 bits of a word
abbrev pub low_32 : ℕ → ℕ
low_32 a = a % 2 ^ 32

-- the low 32 bits of a word, extended by their sign
abbrev pub extend_32 : ℕ → ℕ
extend_32 a = sign_extend 32 a

-- the low 32 bits of a word read with their sign
abbrev pub signed_32 : ℕ → ℤ
signed_32 a = cast_signed w32 (low_32 a)

-- the word of an answer: 1 for yes
abbrev pub truth : Bool → ℕ
truth b = if b then 1 else 0

-- sums, differences and products modulo 2^64: the sum is sum_64 of numbers
abbrev pub sub_64 : ℕ → ℕ → ℕ
sub_64 a b = (a + (2 ^ 64 - b)) % 2 ^ 64

abbrev pub mul_64 : ℕ → ℕ → ℕ
mul_64 a b = (a * b) % 2 ^ 64

-- quotients, rounded towards zero: by zero all ones, and of the least signed number by -1 the dividend
abbrev pub div_u_64 : ℕ → ℕ → ℕ
div_u_64 a b = if nat_eq b 0 then 2 ^ 64 - 1 else a / b

abbrev pub div_s_64 : ℕ → ℕ → ℕ
div_s_64 a b = if nat_eq b 0 then 2 ^ 64 - 1 else word_of (int_wrapping_div w64 (signed a) (signed b))

-- remainders, with the sign of the dividend: by zero the dividend, and of the least signed number by -1 zero
abbrev pub rem_u_64 : ℕ → ℕ → ℕ
rem_u_64 a b = if nat_eq b 0 then a else a % b

abbrev pub rem_s_64 : ℕ → ℕ → ℕ
rem_s_64 a b = if nat_eq b 0 then a else word_of (int_rem (signed a) (signed b))

-- shifts of a by as many bits as the low six of b say
abbrev pub shlo_l_64 : ℕ → ℕ → ℕ
shlo_l_64 a b = (a * 2 ^ (b % 64)) % 2 ^ 64

abbrev pub shlo_r_64 : ℕ → ℕ → ℕ
shlo_r_64 a b = a / 2 ^ (b % 64)

abbrev pub shar_r_64 : ℕ → ℕ → ℕ
shar_r_64 a b = word_of (int_shr (signed a) (b % 64))

-- the same on the low 32 bits, where what comes of it is extended by its sign
abbrev pub add_32 : ℕ → ℕ → ℕ
add_32 a b = extend_32 (a + b)

abbrev pub sub_32 : ℕ → ℕ → ℕ
sub_32 a b = extend_32 (a + (2 ^ 64 - b))

abbrev pub mul_32 : ℕ → ℕ → ℕ
mul_32 a b = extend_32 (a * b)

abbrev pub div_u_32 : ℕ → ℕ → ℕ
div_u_32 a b = if nat_eq (low_32 b) 0 then 2 ^ 64 - 1 else extend_32 (low_32 a / low_32 b)

abbrev pub div_s_32 : ℕ → ℕ → ℕ
div_s_32 a b = if nat_eq (low_32 b) 0 then 2 ^ 64 - 1 else word_of (int_wrapping_div w32 (signed_32 a) (signed_32 b))

abbrev pub rem_u_32 : ℕ → ℕ → ℕ
rem_u_32 a b = if nat_eq (low_32 b) 0 then extend_32 a else extend_32 (low_32 a % low_32 b)

abbrev pub rem_s_32 : ℕ → ℕ → ℕ
rem_s_32 a b = if nat_eq (low_32 b) 0 then extend_32 a else word_of (int_rem (signed_32 a) (signed_32 b))

-- shifts of 32 bits, by as many as the low five of b say
abbrev pub shlo_l_32 : ℕ → ℕ → ℕ
shlo_l_32 a b = extend_32 (low_32 a * 2 ^ (b % 32))

abbrev pub shlo_r_32 : ℕ → ℕ → ℕ
shlo_r_32 a b = extend_32 (low_32 a / 2 ^ (b % 32))

abbrev pub shar_r_32 : ℕ → ℕ → ℕ
shar_r_32 a b = word_of (int_shr (signed_32 a) (b % 32))

-- the high 64 bits of the product of two natural numbers, of two signed ones, and of a signed and a natural one
abbrev pub mul_upper_u_u : ℕ → ℕ → ℕ
mul_upper_u_u a b = (a * b) / 2 ^ 64

abbrev pub mul_upper_s_s : ℕ → ℕ → ℕ
mul_upper_s_s a b = word_of (int_shr (signed a *ℤ signed b) 64)

abbrev pub mul_upper_s_u : ℕ → ℕ → ℕ
mul_upper_s_u a b = word_of (int_shr (signed a *ℤ pos b) 64)

-- 1 where a is less than b
abbrev pub set_lt_u : ℕ → ℕ → ℕ
set_lt_u a b = truth (nat_lt a b)

abbrev pub set_lt_s : ℕ → ℕ → ℕ
set_lt_s a b = truth (int_lt (signed a) (signed b))

-- bit by bit: a and not b, a or not b, and where a and b are alike
abbrev pub and_inv : ℕ → ℕ → ℕ
and_inv a b = bit_and a (bit_not w64 b)

abbrev pub or_inv : ℕ → ℕ → ℕ
or_inv a b = bit_or a (bit_not w64 b)

abbrev pub xnor : ℕ → ℕ → ℕ
xnor a b = bit_not w64 (bit_xor a b)

-- the greater and the lesser of two signed numbers
abbrev pub max_s : ℕ → ℕ → ℕ
max_s a b = if int_lt (signed a) (signed b) then b else a

abbrev pub min_s : ℕ → ℕ → ℕ
min_s a b = if int_lt (signed b) (signed a) then b else a
