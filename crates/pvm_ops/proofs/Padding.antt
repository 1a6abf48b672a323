-- The bits of a packed mask after its marks are zero.
use Rattle.std.proofs.Common.{◌≡◌, ℕ, suc, ◌/◌, ◌%◌, ◌^◌, ◌<◌, List, [], ◌∷◌, length, Bool, true, false, refl, ◌∙◌, arith}
use Rattle.std.specs.Prelude.{slice_index}
use Rattle.std.proofs.Math.Nat.{pow-suc, div-eq_of_lt}
use Rattle.pvm_ops.specs.Listing.{number_of_bits, packed}
use Rattle.pvm_ops.specs.Laws.{MaskIsPadded}

number_of_bits-lt : (bs : List Bool) → number_of_bits bs < 2 ^ length bs
number_of_bits-lt [] = omega arith
number_of_bits-lt (true ∷ bs) = omega (arith, number_of_bits-lt bs, pow-suc 2 (length bs))
number_of_bits-lt (false ∷ bs) = omega (arith, number_of_bits-lt bs, pow-suc 2 (length bs))

-- of the last byte, which some marks don't fill
rest_zero : (bs : List Bool) → number_of_bits bs / 2 ^ length bs ≡ 0
rest_zero bs = div-eq_of_lt (number_of_bits-lt bs)

-- what is left of the byte in which a mask of `bits` bits ends, or of the 0 after it
abbrev rest_at : List ℕ → ℕ → ℕ
rest_at mask bits = slice_index mask (bits / 8) / 2 ^ (bits % 8)

later_rest : (byte : ℕ) (mask : List ℕ) (bits : ℕ) → rest_at (byte ∷ mask) (suc (suc (suc (suc (suc (suc (suc (suc bits)))))))) ≡ rest_at mask bits
later_rest byte mask bits =
    let q : suc (suc (suc (suc (suc (suc (suc (suc bits))))))) / 8 ≡ suc (bits / 8) = omega arith in
    let r : suc (suc (suc (suc (suc (suc (suc (suc bits))))))) % 8 ≡ bits % 8 = omega arith in
    rw (q, r) refl

pub packed_is_padded : MaskIsPadded
unfolding packed
packed_is_padded [] = refl
packed_is_padded (a ∷ []) = rest_zero (a ∷ [])
packed_is_padded (a ∷ b ∷ []) = rest_zero (a ∷ b ∷ [])
packed_is_padded (a ∷ b ∷ c ∷ []) = rest_zero (a ∷ b ∷ c ∷ [])
packed_is_padded (a ∷ b ∷ c ∷ d ∷ []) = rest_zero (a ∷ b ∷ c ∷ d ∷ [])
packed_is_padded (a ∷ b ∷ c ∷ d ∷ e ∷ []) = rest_zero (a ∷ b ∷ c ∷ d ∷ e ∷ [])
packed_is_padded (a ∷ b ∷ c ∷ d ∷ e ∷ f ∷ []) = rest_zero (a ∷ b ∷ c ∷ d ∷ e ∷ f ∷ [])
packed_is_padded (a ∷ b ∷ c ∷ d ∷ e ∷ f ∷ g ∷ []) = rest_zero (a ∷ b ∷ c ∷ d ∷ e ∷ f ∷ g ∷ [])
packed_is_padded (a ∷ b ∷ c ∷ d ∷ e ∷ f ∷ g ∷ h ∷ rest) = later_rest (number_of_bits (a ∷ b ∷ c ∷ d ∷ e ∷ f ∷ g ∷ h ∷ [])) (packed rest) (length rest) ∙ packed_is_padded rest
