-- What each operation gives (JAM Gray Paper 0.7.0, appendix A, "Instruction Tables").
use Rattle.std.specs.Prelude.{ℕ, ◌%◌, ◌^◌, min, max, Bool, nat_eq, nat_lt, nat_le, not, bit_and, bit_or, bit_xor}
use Rattle.std.specs.Int.{w32, w64, rotate_left, rotate_right, leading_zeros, trailing_zeros, swap_bytes}
use Rattle.std.specs.Int.RustNames.{count_ones, int_lt, int_le}
use Rattle.numbers.specs.Words.{sign_extend, sum_64}
use Rattle.arithmetic.specs.Words.{low_32, extend_32, signed, sub_64, mul_64, add_32, sub_32, mul_32, div_u_64, rem_u_64, div_s_64, rem_s_64, div_u_32, rem_u_32, div_s_32, rem_s_32, shlo_l_64, shlo_r_64, shar_r_64, shlo_l_32, shlo_r_32, shar_r_32, set_lt_u, set_lt_s, mul_upper_u_u, mul_upper_s_s, mul_upper_s_u, and_inv, or_inv, xnor, max_s, min_s}
use Rattle.arithmetic.specs.declared.operations.Binary.{Binary}
use Rattle.arithmetic.specs.declared.operations.Unary.{Unary}
use Rattle.arithmetic.specs.declared.operations.Condition.{Condition}
use Rattle.arithmetic.specs.declared.operations.Binary.TheVariants.{Add32, Sub32, Mul32, DivU32, DivS32, RemU32, RemS32, ShloL32, ShloR32, SharR32, Add64, Sub64, Mul64, DivU64, DivS64, RemU64, RemS64, ShloL64, ShloR64, SharR64, And, Xor, Or, MulUpperSS, MulUpperUU, MulUpperSU, SetLtU, SetLtS, RotL64, RotL32, RotR64, RotR32, AndInv, OrInv, Xnor, Max, MaxU, Min, MinU}
use Rattle.arithmetic.specs.declared.operations.Unary.TheVariants.{Move, CountSetBits64, CountSetBits32, LeadingZeroBits64, LeadingZeroBits32, TrailingZeroBits64, TrailingZeroBits32, SignExtend8, SignExtend16, ZeroExtend16, ReverseBytes}
use Rattle.arithmetic.specs.declared.operations.Condition.TheVariants.{Eq, Ne, LtU, LeU, GeU, GtU, LtS, LeS, GeS, GtS}

-- what an operation on two words gives
abbrev pub binary : Binary → ℕ → ℕ → ℕ
binary Add32 a b = add_32 a b
binary Sub32 a b = sub_32 a b
binary Mul32 a b = mul_32 a b
binary DivU32 a b = div_u_32 a b
binary DivS32 a b = div_s_32 a b
binary RemU32 a b = rem_u_32 a b
binary RemS32 a b = rem_s_32 a b
binary ShloL32 a b = shlo_l_32 a b
binary ShloR32 a b = shlo_r_32 a b
binary SharR32 a b = shar_r_32 a b
binary Add64 a b = sum_64 a b
binary Sub64 a b = sub_64 a b
binary Mul64 a b = mul_64 a b
binary DivU64 a b = div_u_64 a b
binary DivS64 a b = div_s_64 a b
binary RemU64 a b = rem_u_64 a b
binary RemS64 a b = rem_s_64 a b
binary ShloL64 a b = shlo_l_64 a b
binary ShloR64 a b = shlo_r_64 a b
binary SharR64 a b = shar_r_64 a b
binary And a b = bit_and a b
binary Xor a b = bit_xor a b
binary Or a b = bit_or a b
binary MulUpperSS a b = mul_upper_s_s a b
binary MulUpperUU a b = mul_upper_u_u a b
binary MulUpperSU a b = mul_upper_s_u a b
binary SetLtU a b = set_lt_u a b
binary SetLtS a b = set_lt_s a b
binary RotL64 a b = rotate_left w64 a (b % 64)
binary RotL32 a b = extend_32 (rotate_left w32 (low_32 a) (b % 32))
binary RotR64 a b = rotate_right w64 a (b % 64)
binary RotR32 a b = extend_32 (rotate_right w32 (low_32 a) (b % 32))
binary AndInv a b = and_inv a b
binary OrInv a b = or_inv a b
binary Xnor a b = xnor a b
binary Max a b = max_s a b
binary MaxU a b = max a b
binary Min a b = min_s a b
binary MinU a b = min a b

-- what an operation on one word gives
abbrev pub unary : Unary → ℕ → ℕ
unary Move a = a
unary CountSetBits64 a = count_ones a
unary CountSetBits32 a = count_ones (low_32 a)
unary LeadingZeroBits64 a = leading_zeros w64 a
unary LeadingZeroBits32 a = leading_zeros w32 (low_32 a)
unary TrailingZeroBits64 a = trailing_zeros w64 a
unary TrailingZeroBits32 a = trailing_zeros w32 (low_32 a)
unary SignExtend8 a = sign_extend 8 a
unary SignExtend16 a = sign_extend 16 a
unary ZeroExtend16 a = a % 2 ^ 16
unary ReverseBytes a = swap_bytes w64 a

-- whether a comparison of two words holds
abbrev pub holds : Condition → ℕ → ℕ → Bool
holds Eq a b = nat_eq a b
holds Ne a b = not (nat_eq a b)
holds LtU a b = nat_lt a b
holds LeU a b = nat_le a b
holds GeU a b = nat_le b a
holds GtU a b = nat_lt b a
holds LtS a b = int_lt (signed a) (signed b)
holds LeS a b = int_le (signed a) (signed b)
holds GeS a b = int_le (signed b) (signed a)
holds GtS a b = int_lt (signed b) (signed a)
