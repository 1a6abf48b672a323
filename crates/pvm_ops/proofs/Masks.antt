-- Marks that are packed into a mask, and read again.
use Rattle.std.proofs.Common.{◌≡◌, ℕ, zero, suc, ◌/◌, ◌%◌, ◌<◌, List, [], ◌∷◌, length, get_or, Bool, true, false, nat_eq, nat_lt, arith, refl, sym, ap, ◌∙◌, inl, inr}
use Rattle.std.specs.Prelude.{if◌then◌else◌, nat_le}
use Rattle.std.specs.Int.{bit_at}
use Rattle.std.proofs.lemmas.Nat.Bits.{bit_at-suc, bit_at_lowest, bit_at-zero}
use Rattle.std.proofs.lemmas.List.{get_or_past}
use Rattle.std.proofs.lemmas.Bool.{cases_lt}
use Rattle.std.proofs.lemmas.Bool.Decides.{nat_tests}
use Rattle.pvm_ops.specs.Listing.{bit_of, number_of_bits, packed}
use Rattle.pvm_ops.specs.Laws.{MarksComeBack, StopsComeBack, MaskLength}

-- one for a mark, zero for none
abbrev bit_number : Bool → ℕ
bit_number b = if b then 1 else 0

bit_number-lt : (b : Bool) → bit_number b < 2
bit_number-lt true = omega arith
bit_number-lt false = omega arith

-- a bit of the number that bits spell
bit_at-number_of_bits : (bs : List Bool) (k : ℕ) → bit_at (number_of_bits bs) k ≡ bit_number (get_or bs k false)
bit_at-number_of_bits [] k = bit_at-zero k
bit_at-number_of_bits (b ∷ bs) zero =
    let low = bit_number-lt b in bit_at_lowest (number_of_bits (b ∷ bs)) ∙ omega arith
bit_at-number_of_bits (b ∷ bs) (suc k) =
    let low = bit_number-lt b in
    let half : number_of_bits (b ∷ bs) / 2 ≡ number_of_bits bs = omega arith in
    bit_at-suc (number_of_bits (b ∷ bs)) k ∙ ap (λ (n : ℕ). bit_at n k) half ∙ bit_at-number_of_bits bs k

-- a bit of the only byte
only_byte : (bs : List Bool) (at : ℕ) → at < 8 → bit_of (number_of_bits bs ∷ []) at ≡ bit_number (get_or bs at false)
only_byte bs at h =
    let q : at / 8 ≡ 0 = omega arith in
    let r : at % 8 ≡ at = omega arith in
    rw (q, r) (bit_at-number_of_bits bs at)

-- a bit of a later byte
later_byte : (byte : ℕ) (mask : List ℕ) (at : ℕ) → bit_of (byte ∷ mask) (suc (suc (suc (suc (suc (suc (suc (suc at)))))))) ≡ bit_of mask at
later_byte byte mask at =
    let q : suc (suc (suc (suc (suc (suc (suc (suc at))))))) / 8 ≡ suc (at / 8) = omega arith in
    let r : suc (suc (suc (suc (suc (suc (suc (suc at))))))) % 8 ≡ at % 8 = omega arith in
    rw (q, r) refl

-- a bit of a mask is its mark
bit_of-packed : (marks : List Bool) (at : ℕ) → at < length marks → bit_of (packed marks) at ≡ bit_number (get_or marks at false)
unfolding packed
bit_of-packed [] at h = absurd (omega arith)
bit_of-packed (a ∷ []) at h = only_byte (a ∷ []) at (omega arith)
bit_of-packed (a ∷ b ∷ []) at h = only_byte (a ∷ b ∷ []) at (omega arith)
bit_of-packed (a ∷ b ∷ c ∷ []) at h = only_byte (a ∷ b ∷ c ∷ []) at (omega arith)
bit_of-packed (a ∷ b ∷ c ∷ d ∷ []) at h = only_byte (a ∷ b ∷ c ∷ d ∷ []) at (omega arith)
bit_of-packed (a ∷ b ∷ c ∷ d ∷ e ∷ []) at h = only_byte (a ∷ b ∷ c ∷ d ∷ e ∷ []) at (omega arith)
bit_of-packed (a ∷ b ∷ c ∷ d ∷ e ∷ f ∷ []) at h = only_byte (a ∷ b ∷ c ∷ d ∷ e ∷ f ∷ []) at (omega arith)
bit_of-packed (a ∷ b ∷ c ∷ d ∷ e ∷ f ∷ g ∷ []) at h = only_byte (a ∷ b ∷ c ∷ d ∷ e ∷ f ∷ g ∷ []) at (omega arith)
bit_of-packed (a ∷ b ∷ c ∷ d ∷ e ∷ f ∷ g ∷ i ∷ rest) zero h = bit_at-number_of_bits (a ∷ b ∷ c ∷ d ∷ e ∷ f ∷ g ∷ i ∷ []) 0
bit_of-packed (a ∷ b ∷ c ∷ d ∷ e ∷ f ∷ g ∷ i ∷ rest) (suc zero) h = bit_at-number_of_bits (a ∷ b ∷ c ∷ d ∷ e ∷ f ∷ g ∷ i ∷ []) 1
bit_of-packed (a ∷ b ∷ c ∷ d ∷ e ∷ f ∷ g ∷ i ∷ rest) (suc (suc zero)) h = bit_at-number_of_bits (a ∷ b ∷ c ∷ d ∷ e ∷ f ∷ g ∷ i ∷ []) 2
bit_of-packed (a ∷ b ∷ c ∷ d ∷ e ∷ f ∷ g ∷ i ∷ rest) (suc (suc (suc zero))) h = bit_at-number_of_bits (a ∷ b ∷ c ∷ d ∷ e ∷ f ∷ g ∷ i ∷ []) 3
bit_of-packed (a ∷ b ∷ c ∷ d ∷ e ∷ f ∷ g ∷ i ∷ rest) (suc (suc (suc (suc zero)))) h = bit_at-number_of_bits (a ∷ b ∷ c ∷ d ∷ e ∷ f ∷ g ∷ i ∷ []) 4
bit_of-packed (a ∷ b ∷ c ∷ d ∷ e ∷ f ∷ g ∷ i ∷ rest) (suc (suc (suc (suc (suc zero))))) h = bit_at-number_of_bits (a ∷ b ∷ c ∷ d ∷ e ∷ f ∷ g ∷ i ∷ []) 5
bit_of-packed (a ∷ b ∷ c ∷ d ∷ e ∷ f ∷ g ∷ i ∷ rest) (suc (suc (suc (suc (suc (suc zero)))))) h = bit_at-number_of_bits (a ∷ b ∷ c ∷ d ∷ e ∷ f ∷ g ∷ i ∷ []) 6
bit_of-packed (a ∷ b ∷ c ∷ d ∷ e ∷ f ∷ g ∷ i ∷ rest) (suc (suc (suc (suc (suc (suc (suc zero))))))) h = bit_at-number_of_bits (a ∷ b ∷ c ∷ d ∷ e ∷ f ∷ g ∷ i ∷ []) 7
bit_of-packed (a ∷ b ∷ c ∷ d ∷ e ∷ f ∷ g ∷ i ∷ rest) (suc (suc (suc (suc (suc (suc (suc (suc at)))))))) h =
    later_byte (number_of_bits (a ∷ b ∷ c ∷ d ∷ e ∷ f ∷ g ∷ i ∷ [])) (packed rest) at ∙ bit_of-packed rest at (omega arith)

-- a set bit is a mark
is_set : (b : Bool) → nat_eq (bit_number b) 1 ≡ b
is_set true = refl
is_set false = refl

mark_of-packed : (marks : List Bool) (at : ℕ) → at < length marks → nat_eq (bit_of (packed marks) at) 1 ≡ get_or marks at false
mark_of-packed marks at h =
    ap (λ (n : ℕ). nat_eq n 1) (bit_of-packed marks at h) ∙ is_set (get_or marks at false)

pub is_marked-packed : MarksComeBack
is_marked-packed bytes marks e at =
    elim (cases_lt at (length bytes)) [
      | inl below ↦
          let within : nat_lt at (length bytes) ≡ true = grind (arith, nat_tests) in
          rw within (mark_of-packed marks at (omega arith))
      | inr past ↦
          let without : nat_lt at (length bytes) ≡ false = grind (arith, nat_tests) in
          rw without (sym (get_or_past marks at false (omega arith)))
    ]

pub is_stop-packed : StopsComeBack
is_stop-packed bytes marks e at =
    elim (cases_lt at (length bytes)) [
      | inl below ↦ rw (mark_of-packed marks at (omega arith)) refl
      | inr past ↦
          let without : nat_le (length bytes) at ≡ true = grind (arith, nat_tests) in
          rw without refl
    ]

pub length-packed : MaskLength
unfolding packed
length-packed [] = refl
length-packed (a ∷ []) = refl
length-packed (a ∷ b ∷ []) = refl
length-packed (a ∷ b ∷ c ∷ []) = refl
length-packed (a ∷ b ∷ c ∷ d ∷ []) = refl
length-packed (a ∷ b ∷ c ∷ d ∷ e ∷ []) = refl
length-packed (a ∷ b ∷ c ∷ d ∷ e ∷ f ∷ []) = refl
length-packed (a ∷ b ∷ c ∷ d ∷ e ∷ f ∷ g ∷ []) = refl
length-packed (a ∷ b ∷ c ∷ d ∷ e ∷ f ∷ g ∷ h ∷ rest) = omega (arith, length-packed rest)
