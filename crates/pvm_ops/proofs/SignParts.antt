-- The parts that a sign extension is put together from, and eight bytes as two words.
use Rattle.std.proofs.Common.{◌≡◌, ℕ, zero, suc, ◌+◌, ◌-◌, ◌*◌, ◌/◌, ◌%◌, ◌^◌, ◌<◌, ◌≤◌, List, Bool, arith, ap, ◌∙◌, nat_lt, true, false, inl, inr}
use Rattle.std.specs.Prelude.{if◌then◌else◌}
use Rattle.std.proofs.lemmas.Bool.{cases_lt, lt-ltb, lt-leb}
use Rattle.numbers.specs.Bytes.{number_of}
use Rattle.numbers.specs.Words.{sign_extend}
use Rattle.pvm_ops.specs.Fetch.{bytes_from}

chosen_low : (b : Bool) (x y r : ℕ) → b ≡ true → r ≡ x → r ≡ (if b then x else y)
chosen_low b x y r e h = rw e h

chosen_high : (b : Bool) (x y r : ℕ) → b ≡ false → r ≡ y → r ≡ (if b then x else y)
chosen_high b x y r e h = rw e h

-- the low bytes of a word, at most four, extended by their sign: half of their power is added, and taken off again
pub by_half : (len word : ℕ) → len ≤ 4 → ((word + 2 ^ (8 * len) / 2) % 2 ^ (8 * len) + (2 ^ 64 - 2 ^ (8 * len) / 2)) % 2 ^ 64 ≡ sign_extend (8 * len) word
by_half zero word l = chosen_low (nat_lt (word % 1) 1) (word % 1) (word % 1 + (2 ^ 64 - 1)) _ (lt-ltb (word % 1) 1 (omega arith)) (omega arith)
by_half (suc zero) word l = elim (cases_lt (word % 256) 128) [
  | inl low ↦ chosen_low (nat_lt (word % 256) 128) (word % 256) (word % 256 + (2 ^ 64 - 256)) _ (lt-ltb (word % 256) 128 low) (omega arith)
  | inr high ↦ chosen_high (nat_lt (word % 256) 128) (word % 256) (word % 256 + (2 ^ 64 - 256)) _ (lt-leb (suc (word % 256)) 128 (omega arith)) (omega arith)
]
by_half (suc (suc zero)) word l = elim (cases_lt (word % 65536) 32768) [
  | inl low ↦ chosen_low (nat_lt (word % 65536) 32768) (word % 65536) (word % 65536 + (2 ^ 64 - 65536)) _ (lt-ltb (word % 65536) 32768 low) (omega arith)
  | inr high ↦ chosen_high (nat_lt (word % 65536) 32768) (word % 65536) (word % 65536 + (2 ^ 64 - 65536)) _ (lt-leb (suc (word % 65536)) 32768 (omega arith)) (omega arith)
]
by_half (suc (suc (suc zero))) word l = elim (cases_lt (word % 16777216) 8388608) [
  | inl low ↦ chosen_low (nat_lt (word % 16777216) 8388608) (word % 16777216) (word % 16777216 + (2 ^ 64 - 16777216)) _ (lt-ltb (word % 16777216) 8388608 low) (omega arith)
  | inr high ↦ chosen_high (nat_lt (word % 16777216) 8388608) (word % 16777216) (word % 16777216 + (2 ^ 64 - 16777216)) _ (lt-leb (suc (word % 16777216)) 8388608 (omega arith)) (omega arith)
]
by_half (suc (suc (suc (suc zero)))) word l = elim (cases_lt (word % 4294967296) 2147483648) [
  | inl low ↦ chosen_low (nat_lt (word % 4294967296) 2147483648) (word % 4294967296) (word % 4294967296 + (2 ^ 64 - 4294967296)) _ (lt-ltb (word % 4294967296) 2147483648 low) (omega arith)
  | inr high ↦ chosen_high (nat_lt (word % 4294967296) 2147483648) (word % 4294967296) (word % 4294967296 + (2 ^ 64 - 4294967296)) _ (lt-leb (suc (word % 4294967296)) 2147483648 (omega arith)) (omega arith)
]
by_half (suc (suc (suc (suc (suc len))))) word l = absurd (omega arith)

-- eight bytes as two words
pub two_words : (bytes : List ℕ) (at low high : ℕ) → low ≡ number_of (bytes_from bytes at 4) → high ≡ number_of (bytes_from bytes (at + 4) 4) → low + high * 2 ^ 32 ≡ number_of (bytes_from bytes at 8)
two_words bytes at low high l h =
    let there : at + 1 + 1 + 1 + 1 ≡ at + 4 = omega arith in
    let rest = ap (λ p. number_of (bytes_from bytes p 4)) there in
    omega arith

-- a word of 64 bits has no other bits to extend
pub whole_word : (v : ℕ) → v < 2 ^ 64 → sign_extend 64 v ≡ v
whole_word v h =
    let same : v % 2 ^ 64 ≡ v = omega arith in
    elim (nat_lt (v % 2 ^ 64) (2 ^ 63)) as (λ b. (if b then v % 2 ^ 64 else v % 2 ^ 64 + (2 ^ 64 - 2 ^ 64)) ≡ v) [ true ↦ omega arith | false ↦ omega arith ]
