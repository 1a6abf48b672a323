-- Ranges that may be read, or written: their least barred address, and the result of an access of their bytes.
use Rattle.std.proofs.Common.{◌≡◌, ℕ, zero, suc, ◌+◌, ◌-◌, ◌<◌, ◌≤◌, ◌^◌, Bool, true, false, Option, Some, None, refl, ap, sym, ◌∙◌, arith, inl, inr}
use Rattle.std.specs.Prelude.{◌&&◌, ◌||◌, not, nat_le, if◌then◌else◌}
use Rattle.std.specs.Option.{is_some}
use Rattle.std.proofs.lemmas.Bool.{cases_lt}
use Rattle.std.proofs.lemmas.Bool.Decides.{nat_tests}
use Rattle.std.specs.FinMap as map
use Rattle.machine_state.specs.Memory as model
use Rattle.machine_state.specs.Output.{all_from}
use Rattle.page_memory.specs.Access.{least_refused}
use Rattle.page_memory.specs.Pages.{HasAddresses}
use Rattle.page_memory.specs.Ranges.{is_barred, IsLeastBarred, range_allows}
use Rattle.page_memory.proofs.Parts.{range_is}

-- a test that holds at each number of a range
pub all_hold : (p : ℕ → Bool) (len at : ℕ) → ((a : ℕ) → at ≤ a → a < at + len → p a ≡ true) → all_from p at len ≡ true
unfolding all_from
all_hold p zero at h = refl
all_hold p (suc len) at h = rw (h at (omega arith) (omega arith), all_hold p len (at + 1) (λ a low high. h a (omega arith) (omega arith))) refl

and_false : (b : Bool) → (b && false) ≡ false
and_false true = refl
and_false false = refl

-- and one that fails at some number of it
pub one_fails : (p : ℕ → Bool) (len at a : ℕ) → at ≤ a → a < at + len → p a ≡ false → all_from p at len ≡ false
unfolding all_from
one_fails p zero at a low high h = absurd (omega arith)
one_fails p (suc len) at a low high h = elim (cases_lt at a) [
  | inl less ↦ rw (one_fails p len (at + 1) a (omega arith) (omega arith) h) (and_false (p at))
  | inr not_less ↦ let same : a ≡ at = omega arith in let here : p at ≡ false = ap p (sym same) ∙ h in rw here refl
]

-- a range is allowed if it has no least barred address
pub allows_is : (o : Option ℕ) (m : model.Memory) (writing : Bool) (at len : ℕ) → IsLeastBarred m writing at len o → not (is_some o) ≡ range_allows m writing at len
allows_is None m writing at len free = sym (all_hold (λ a. not (is_barred m writing a)) len at (λ a low high. ap not (free a low high)))
allows_is (Some least) m writing at len barred = sym (one_fails (λ a. not (is_barred m writing a)) len at least barred.0 barred.1 (ap not barred.2))

both : (a b : Bool) → (a && b) ≡ true → (a ≡ true) × (b ≡ true)
both true true e = (refl, refl)
both true false e = cc
both false b e = cc

-- a test that holds at each number of a range, at one of them
pub all_at : (p : ℕ → Bool) (len at a : ℕ) → all_from p at len ≡ true → at ≤ a → a < at + len → p a ≡ true
unfolding all_from
all_at p zero at a h low high = absurd (omega arith)
all_at p (suc len) at a h low high =
    let each = both (p at) (all_from p (at + 1) len) h in
    elim (cases_lt at a) [
      | inl more ↦ all_at p len (at + 1) a each.1 (omega (arith, more)) (omega arith)
      | inr not_more ↦ let same : a ≡ at = omega (arith, not_more, low) in ap p same ∙ each.0
    ]

not_not : (b : Bool) → not b ≡ true → b ≡ false
not_not true e = cc
not_not false e = refl

-- no address of an allowed range is barred
pub none_barred : (m : model.Memory) (writing : Bool) (at len : ℕ) → range_allows m writing at len ≡ true → IsLeastBarred m writing at len None
none_barred m writing at len allows a low high = not_not _ (all_at (λ a. not (is_barred m writing a)) len at a allows low high)

past : (m : model.Memory) (writing : Bool) (a : ℕ) → 2 ^ 32 ≤ a → is_barred m writing a ≡ true
past m writing a h = let test : nat_le (2 ^ 32) a ≡ true = grind (arith, nat_tests) in rw test refl

-- an allowed range ends at 2^32 or before
pub allowed_ends : (m : model.Memory) (writing : Bool) (at len : ℕ) → 0 < len → IsLeastBarred m writing at len None → at + len ≤ 2 ^ 32
allowed_ends m writing at len some free = elim (cases_lt (2 ^ 32) (at + len)) [
  | inl more ↦
      let last : is_barred m writing (at + len - 1) ≡ false = free (at + len - 1) (omega arith) (omega arith) in
      let over : is_barred m writing (at + len - 1) ≡ true = past m writing (at + len - 1) (omega arith) in
      absurd cc
  | inr not_more ↦ omega arith
]

-- and an access of its bytes is not refused
pub allowed_free : (m : model.Memory) (writing : Bool) (at len : ℕ) → at + len ≤ 2 ^ 32 → IsLeastBarred m writing at len None → least_refused m writing at len ≡ None
allowed_free m writing at len ends free = sym (range_is None m writing at at len refl ends free)

-- and it is smaller than all addresses: no page has those below 2^16
pub less_than_all : (m : model.Memory) (writing : Bool) (at len : ℕ) → HasAddresses m → IsLeastBarred m writing at len None → len < 2 ^ 32
less_than_all m writing at len has free = elim (cases_lt len (2 ^ 32)) [
  | inl less ↦ less
  | inr not_less ↦
      let ends = allowed_ends m writing at len (omega (arith, not_less)) free in
      let none : map.get m 0 ≡ None = has 0 refl in
      let barred : is_barred m writing 0 ≡ true = rw none refl in
      let allowed : is_barred m writing 0 ≡ false = free 0 (omega (arith, ends, not_less)) (omega (arith, not_less)) in
      absurd cc
]
