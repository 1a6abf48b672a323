-- Four bytes as one number: its low bytes, and its bits.
use Rattle.std.proofs.Common.{◌≡◌, ℕ, zero, suc, ◌+◌, ◌-◌, ◌*◌, ◌/◌, ◌%◌, ◌^◌, ◌<◌, ◌≤◌, List, arith, refl, ap, ◌∙◌, slice_index, inl, inr}
use Rattle.std.specs.Int.{bit_at}
use Rattle.std.proofs.lemmas.Nat.{mod-pow-add}
use Rattle.std.proofs.lemmas.Nat.Bits.{bit_at_cat_low, bit_at_cat_high}
use Rattle.std.proofs.lemmas.Bool.{cases_lt}
use Rattle.numbers.specs.Bytes.{number_of}
use Rattle.pvm_ops.specs.Fetch.{bytes_from}
use Rattle.pvm_ops.specs.Listing.{bit_of}

-- a bit of the number that bytes spell is a bit of one of them
pub bit_at-bytes_from : (bytes : List ℕ) → ((i : ℕ) → slice_index bytes i < 256) → (at n j : ℕ) → j < 8 * n → bit_at (number_of (bytes_from bytes at n)) j ≡ bit_of bytes (8 * at + j)
bit_at-bytes_from bytes fits at zero j l = absurd (omega arith)
bit_at-bytes_from bytes fits at (suc n) j l =
    let byte = slice_index bytes at in
    let rest = number_of (bytes_from bytes (at + 1) n) in
    let small : byte < 2 ^ 8 = fits at in
    let cat : number_of (bytes_from bytes at (suc n)) ≡ rest * 2 ^ 8 + byte = omega arith in
    elim (cases_lt j 8) [
      | inl low ↦
          (let place : (8 * at + j) / 8 ≡ at = omega arith in
          let bit : (8 * at + j) % 8 ≡ j = omega arith in
          ap (λ x. bit_at x j) cat ∙ bit_at_cat_low rest 8 byte j low ∙ rw (place, bit) refl)
      | inr high ↦
          (let there : 8 * (at + 1) + (j - 8) ≡ 8 * at + j = omega arith in
          ap (λ x. bit_at x j) cat
          ∙ bit_at_cat_high rest 8 byte j small high
          ∙ bit_at-bytes_from bytes fits (at + 1) n (j - 8) (omega arith)
          ∙ ap (bit_of bytes) there)
    ]

-- the low bytes of the number that more bytes spell
pub low-bytes_from : (bytes : List ℕ) → ((i : ℕ) → slice_index bytes i < 256) → (at m n : ℕ) → n ≤ m → number_of (bytes_from bytes at m) % 2 ^ (8 * n) ≡ number_of (bytes_from bytes at n)
low-bytes_from bytes fits at m zero l = omega arith
low-bytes_from bytes fits at zero (suc n) l = absurd (omega arith)
low-bytes_from bytes fits at (suc m) (suc n) l =
    let whole = number_of (bytes_from bytes at (suc m)) in
    let small : slice_index bytes at < 256 = fits at in
    let high : whole / 2 ^ 8 ≡ number_of (bytes_from bytes (at + 1) m) = omega arith in
    let low : whole % 2 ^ 8 ≡ slice_index bytes at = omega arith in
    let rest : whole / 2 ^ 8 % 2 ^ (8 * n) ≡ number_of (bytes_from bytes (at + 1) n) = ap (λ x. x % 2 ^ (8 * n)) high ∙ low-bytes_from bytes fits (at + 1) m n (omega arith) in
    let more : 8 * suc n ≡ 8 * n + 8 = omega arith in
    let split = mod-pow-add whole (8 * n) 8 in
    ap (λ k. whole % 2 ^ k) more ∙ split ∙ omega (arith, rest, low)

-- four bytes as they are put together
pub four_bytes : (bytes : List ℕ) (at n : ℕ) → n ≡ slice_index bytes at + slice_index bytes (at + 1) * 256 + slice_index bytes (at + 2) * 65536 + slice_index bytes (at + 3) * 16777216 → n ≡ number_of (bytes_from bytes at 4)
four_bytes bytes at n e =
    let second : at + 1 + 1 ≡ at + 2 = omega arith in
    let third : at + 1 + 1 + 1 ≡ at + 3 = omega arith in
    let at_second = ap (slice_index bytes) second in
    let at_third = ap (slice_index bytes) third in
    omega (arith, at_second, at_third)
