-- Laws of little-endian bytes.
use Rattle.std.proofs.Common.{◌≡◌, ℕ, zero, suc, ◌+◌, ◌*◌, ◌/◌, ◌%◌, ◌^◌, ◌≤◌, List, ◌∷◌, length, take, refl, sym, ap, ◌∙◌, arith}
use Rattle.std.specs.Int.{w64, byte_at, bytes_low_first, to_le_bytes}
use Rattle.std.proofs.Math.Nat.{div-div-eq-div-mul, pow-suc}
use Rattle.std.proofs.lemmas.Nat.{mod-pow-add}
use Rattle.numbers.specs.Bytes.{little}
use Rattle.numbers.specs.Laws.{BytesComeBack}

div_pow_suc : (n i : ℕ) → n / 256 ^ suc i ≡ n / 256 ^ i / 256
div_pow_suc n i = ap (λ (d : ℕ). n / d) (pow-suc 256 i) ∙ sym (div-div-eq-div-mul n (256 ^ i) 256)

byte_at_is : (i n : ℕ) → byte_at i n ≡ n / 256 ^ i % 256
byte_at_is zero n = let e : n / 1 ≡ n = omega arith in ap (λ (d : ℕ). d % 256) (sym e)
byte_at_is (suc i) n = refl

low_first_little : (k i n : ℕ) → bytes_low_first i k n ≡ little k (n / 256 ^ i)
low_first_little zero i n = refl
low_first_little (suc k) i n =
    ap (λ (b : ℕ). b ∷ bytes_low_first (suc i) k n) (byte_at_is i n)
    ∙ ap (λ (bs : List ℕ). (n / 256 ^ i % 256) ∷ bs) (low_first_little k (suc i) n ∙ ap (little k) (div_pow_suc n i))

-- what `to_le_bytes` gives of 64 bits
pub le_bytes_little : (n : ℕ) → to_le_bytes w64 n ≡ little 8 n
le_bytes_little n = let e : n / 1 ≡ n = omega arith in low_first_little 8 0 n ∙ ap (little 8) e

pub take_little : (m k x : ℕ) → m ≤ k → take m (little k x) ≡ little m x
take_little zero k x le = refl
take_little (suc m) zero x le = absurd (omega arith)
take_little (suc m) (suc k) x le = ap (λ (bs : List ℕ). (x % 256) ∷ bs) (take_little m k (x / 256) (omega arith))

-- the first bytes of `to_le_bytes`
pub take_le_bytes : (m x : ℕ) → m ≤ 8 → take m (to_le_bytes w64 x) ≡ little m x
take_le_bytes m x le = ap (take m) (le_bytes_little x) ∙ take_little m 8 x le

pub length-little : (n x : ℕ) → length (little n x) ≡ n
length-little zero x = refl
length-little (suc n) x = ap suc (length-little n (x / 256))

pub number_of-little : BytesComeBack
number_of-little zero x = omega arith
number_of-little (suc n) x =
    let e : 8 * suc n ≡ 8 * n + 8 = omega arith in
    rw (e, mod-pow-add x (8 * n) 8, number_of-little n (x / 256)) (omega arith)
