-- Eight bytes as one number that is shifted down: its low bytes are those further on.
use Rattle.std.proofs.Common.{◌≡◌, ℕ, zero, suc, ◌+◌, ◌-◌, ◌*◌, ◌/◌, ◌%◌, ◌^◌, ◌<◌, ◌≤◌, List, length, arith, refl, sym, ap, ◌∙◌, slice_index, inl, inr}
use Rattle.std.proofs.Math.Nat.{div-div-eq-div-mul}
use Rattle.std.proofs.lemmas.Nat.{pow-add}
use Rattle.std.proofs.lemmas.List.{get_or_past}
use Rattle.std.proofs.lemmas.Bool.{cases_lt}
use Rattle.numbers.specs.Bytes.{number_of}
use Rattle.pvm_ops.specs.Fetch.{bytes_from}
use Rattle.pvm_ops.proofs.MaskWindow.{low-bytes_from}

-- the number of what is left after some bytes
pub high-bytes_from : (bytes : List ℕ) → ((i : ℕ) → slice_index bytes i < 256) → (k at m n p : ℕ) → n ≡ k + m → p ≡ at + k → number_of (bytes_from bytes at n) / 2 ^ (8 * k) ≡ number_of (bytes_from bytes p m)
high-bytes_from bytes fits zero at m n p e there =
    let same : n ≡ m = omega arith in
    let here : p ≡ at = omega arith in
    rw (same, here) (omega arith)
high-bytes_from bytes fits (suc k) at m zero p e there = absurd (omega arith)
high-bytes_from bytes fits (suc k) at m (suc n) p e there =
    let whole = number_of (bytes_from bytes at (suc n)) in
    let small : slice_index bytes at < 256 = fits at in
    let high : whole / 2 ^ 8 ≡ number_of (bytes_from bytes (at + 1) n) = omega arith in
    let more : 8 + 8 * k ≡ 8 * suc k = omega arith in
    let twice : whole / 2 ^ 8 / 2 ^ (8 * k) ≡ whole / 2 ^ (8 + 8 * k) = div-div-eq-div-mul whole (2 ^ 8) (2 ^ (8 * k)) ∙ ap (λ x. whole / x) (sym (pow-add 2 8 (8 * k))) in
    sym (twice ∙ ap (λ x. whole / 2 ^ x) more)
    ∙ ap (λ x. x / 2 ^ (8 * k)) high
    ∙ high-bytes_from bytes fits k (at + 1) m n p (omega arith) (omega arith)

-- zeros after the bytes count for nothing
pub past-bytes_from : (bytes : List ℕ) (m at n : ℕ) → length bytes ≤ at + m → m ≤ n → number_of (bytes_from bytes at n) ≡ number_of (bytes_from bytes at m)
past-bytes_from bytes zero at zero out l = refl
past-bytes_from bytes zero at (suc n) out l =
    let none : slice_index bytes at ≡ 0 = get_or_past bytes at 0 (omega arith) in
    let rest : number_of (bytes_from bytes (at + 1) n) ≡ 0 = past-bytes_from bytes zero (at + 1) n (omega arith) (omega arith) in
    omega (arith, none, rest)
past-bytes_from bytes (suc m) at zero out l = absurd (omega arith)
past-bytes_from bytes (suc m) at (suc n) out l =
    let rest : number_of (bytes_from bytes (at + 1) n) ≡ number_of (bytes_from bytes (at + 1) m) = past-bytes_from bytes m (at + 1) n (omega arith) (omega arith) in
    omega (arith, rest)

-- eight bytes further on, by the eight bytes before: either they are the same, or these are the last
pub shifted_word : (bytes : List ℕ) → ((i : ℕ) → slice_index bytes i < 256) → (start at k : ℕ) → at ≡ start + k → k < 8 → (0 < k → length bytes ≤ start + 8) → number_of (bytes_from bytes start 8) / 2 ^ (8 * k) ≡ number_of (bytes_from bytes at 8)
shifted_word bytes fits start at k e near last =
    let left : number_of (bytes_from bytes start 8) / 2 ^ (8 * k) ≡ number_of (bytes_from bytes at (8 - k)) = high-bytes_from bytes fits k start (8 - k) 8 at (omega arith) e in
    elim (cases_lt 0 k) [
      | inl some ↦ (let out = last some in left ∙ sym (past-bytes_from bytes (8 - k) at 8 (omega arith) (omega arith)))
      | inr none ↦ (let all : 8 - k ≡ 8 = omega arith in left ∙ ap (λ m. number_of (bytes_from bytes at m)) all)
    ]

-- one of eight bytes
pub byte_at_place : (bytes : List ℕ) → ((i : ℕ) → slice_index bytes i < 256) → (at k : ℕ) → k < 8 → number_of (bytes_from bytes at 8) / 2 ^ (8 * k) % 256 ≡ slice_index bytes (at + k)
byte_at_place bytes fits at k near =
    let left : number_of (bytes_from bytes at 8) / 2 ^ (8 * k) ≡ number_of (bytes_from bytes (at + k) (8 - k)) = high-bytes_from bytes fits k at (8 - k) 8 (at + k) (omega arith) refl in
    ap (λ x. x % 256) left
    ∙ low-bytes_from bytes fits (at + k) (8 - k) 1 (omega arith)
    ∙ omega arith

-- four of eight bytes
pub window_at_place : (bytes : List ℕ) → ((i : ℕ) → slice_index bytes i < 256) → (at k n : ℕ) → k ≤ 4 → n ≤ 4 → number_of (bytes_from bytes at 8) / 2 ^ (8 * k) % 4294967296 % 2 ^ (8 * n) ≡ number_of (bytes_from bytes (at + k) n)
window_at_place bytes fits at k n near few =
    let left : number_of (bytes_from bytes at 8) / 2 ^ (8 * k) ≡ number_of (bytes_from bytes (at + k) (8 - k)) = high-bytes_from bytes fits k at (8 - k) 8 (at + k) (omega arith) refl in
    ap (λ x. x % 4294967296 % 2 ^ (8 * n)) left
    ∙ ap (λ x. x % 2 ^ (8 * n)) (low-bytes_from bytes fits (at + k) (8 - k) 4 (omega arith))
    ∙ low-bytes_from bytes fits (at + k) 4 n few
