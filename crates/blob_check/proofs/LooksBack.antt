-- Looking back for the instruction that leads to a position: it can only be the nearest that is marked.
use Rattle.std.proofs.Common.{◌≡◌, ℕ, zero, suc, ◌+◌, ◌-◌, ◌<◌, ◌≤◌, ◌≢◌, Bool, true, false, ◌&&◌, ◌||◌, arith, refl, nat_eq, ap, ◌∙◌, length, inl, inr}
use Rattle.std.specs.Prelude.{if◌then◌else◌, slice_index}
use Rattle.std.proofs.lemmas.Bool.{cases_lt}
use Rattle.std.proofs.lemmas.Bool.Decides.{nat_tests}
use Rattle.pvm_ops.specs.Listing.{Listing, is_stop, is_marked, run_before, skip}
use Rattle.pvm_ops.proofs.Skipping.{run_before-is}
use Rattle.blob_check.specs.Starts.{leads, any_below, is_terminator}

-- a walk of n positions passes at most n
run_before-le : (stops : ℕ → Bool) (n at : ℕ) → run_before stops at n ≤ n
unfolding run_before
run_before-le stops zero at = omega arith
run_before-le stops (suc n) at =
    let rest = run_before-le stops n (at + 1) in
    elim (stops at) as (λ b. (if b then 0 else 1 + run_before stops (at + 1) n) ≤ suc n) [ true ↦ omega arith | false ↦ omega arith ]

-- a walk passes no position that stops
run_before-stops : (stops : ℕ → Bool) (n at p : ℕ) → at ≤ p → stops p ≡ true → at + run_before stops at n ≤ p
unfolding run_before
run_before-stops stops zero at p l e = omega arith
run_before-stops stops (suc n) at p l e =
    elim (stops at) as (λ b. stops at ≡ b → at + (if b then 0 else 1 + run_before stops (at + 1) n) ≤ p) [
      | true ↦ λ here. omega arith
      | false ↦ λ here. (elim (cases_lt at p) [
        | inl less ↦ (let rest = run_before-stops stops n (at + 1) p (omega arith) e in omega arith)
        | inr not ↦ (let same : at ≡ p = omega arith in let there : stops at ≡ true = ap stops same ∙ e in absurd cc)
      ])
    ] refl

-- the test passes nowhere
any_below-none : (p : ℕ → Bool) (n : ℕ) → ((k : ℕ) → k < n → p k ≡ false) → any_below p n ≡ false
unfolding any_below
any_below-none p zero h = refl
any_below-none p (suc n) h = rw (h n (omega arith), any_below-none p n (λ k l. h k (omega arith))) refl

or-true : (b : Bool) → (b || true) ≡ true
or-true true = refl
or-true false = refl

and-false : (b : Bool) → (b && false) ≡ false
and-false true = refl
and-false false = refl

and-true : (b : Bool) → (b && true) ≡ b
and-true true = refl
and-true false = refl

-- the test passes somewhere
any_below-some : (p : ℕ → Bool) (n k : ℕ) → k < n → p k ≡ true → any_below p n ≡ true
unfolding any_below
any_below-some p zero k l h = absurd (omega arith)
any_below-some p (suc n) k l h =
    elim (nat_eq n k) as (λ b. nat_eq n k ≡ b → (p n || any_below p n) ≡ true) [
      | true ↦ λ e. let same : n ≡ k = grind (arith, nat_tests) in rw (same, h) refl
      | false ↦ λ e. let less : k < n = grind (arith, nat_tests) in rw (any_below-some p n k less h) (or-true (p n))
    ] refl

-- what is marked is a byte of the code
within : (code : Listing) (at : ℕ) → is_marked code at ≡ true → at < length code.bytes
within code at e = grind (arith, nat_tests)

-- within the code operands stop at marks alone
stop-marked : (code : Listing) (p : ℕ) → p < length code.bytes → is_stop code p ≡ is_marked code p
stop-marked code p l = grind (arith, nat_tests)

-- an instruction that reaches to another position does not lead there
elsewhere : (code : Listing) (at from : ℕ) → from + 1 + skip code from ≢ at → leads code at from ≡ false
unfolding leads
elsewhere code at from h =
    let apart : nat_eq (from + 1 + skip code from) at ≡ false = grind (arith, nat_tests) in
    rw (apart, and-false (is_marked code from && is_terminator (slice_index code.bytes from))) refl

-- one that is too far back does not lead
too_far : (code : Listing) (at from : ℕ) → from + 25 < at → leads code at from ≡ false
too_far code at from h =
    let near : skip code from ≤ 24 = run_before-le (is_stop code) 24 (from + 1) in
    elsewhere code at from (λ e. omega arith)

-- what is not marked does not lead
unmarked : (code : Listing) (at from : ℕ) → is_marked code from ≡ false → leads code at from ≡ false
unfolding leads
unmarked code at from e = rw e refl

-- one with a mark after it does not lead past that
after_mark : (code : Listing) (at from mark : ℕ) → from < mark → mark < at → is_marked code mark ≡ true → leads code at from ≡ false
after_mark code at from mark l l' e =
    let stops : is_stop code mark ≡ true = stop-marked code mark (within code mark e) ∙ e in
    let short : from + 1 + skip code from ≤ mark = run_before-stops (is_stop code) 24 (from + 1) mark (omega arith) stops in
    elsewhere code at from (λ f. omega arith)

-- the nearest mark before another one is the instruction that may lead to it
nearest : (code : Listing) (at from : ℕ) → is_marked code at ≡ true → is_marked code from ≡ true → from < at → at ≤ from + 25 → ((p : ℕ) → from < p → p < at → is_marked code p ≡ false) → leads code at from ≡ is_terminator (slice_index code.bytes from)
unfolding leads
nearest code at from here there l near between =
    let inside : at < length code.bytes = within code at here in
    let walk : skip code from ≡ at - from - 1 =
    run_before-is (is_stop code) 24 (from + 1) (at - from - 1) (omega arith)
    (λ p a b. stop-marked code p (omega arith) ∙ between p (omega arith) (omega arith))
    (λ p e b. let same : p ≡ at = omega arith in rw same (stop-marked code at inside ∙ here)) in
    let lands : nat_eq (from + 1 + skip code from) at ≡ true = grind (arith, nat_tests) in
    rw (there, lands) (and-true (is_terminator (slice_index code.bytes from)))

-- where there is a nearest mark, it decides
pub found : (code : Listing) (at from : ℕ) → is_marked code at ≡ true → is_marked code from ≡ true → from < at → at ≤ from + 25 → ((p : ℕ) → from < p → p < at → is_marked code p ≡ false) → any_below (leads code at) at ≡ is_terminator (slice_index code.bytes from)
found code at from here there l near between =
    let one = nearest code at from here there l near between in
    let others : (k : ℕ) → k < at → k ≢ from → leads code at k ≡ false =
    λ k less other. elim (cases_lt k from) [
      | inl before ↦ after_mark code at k from before l there
      | inr after ↦ unmarked code at k (between k (omega arith) less)
    ] in
    elim (is_terminator (slice_index code.bytes from)) as (λ b. is_terminator (slice_index code.bytes from) ≡ b → any_below (leads code at) at ≡ b) [
      | true ↦ λ e. any_below-some (leads code at) at from l (one ∙ e)
      | false ↦ λ e. any_below-none (leads code at) at (λ k less. elim (nat_eq k from) as (λ b. nat_eq k from ≡ b → leads code at k ≡ false) [
        | true ↦ λ same. (let is : k ≡ from = grind (arith, nat_tests) in rw is (one ∙ e))
        | false ↦ λ other. others k less (grind (arith, nat_tests))
      ] refl)
    ] refl

-- where nothing within reach is marked, nothing leads
pub missed : (code : Listing) (at : ℕ) → ((p : ℕ) → p < at → at ≤ p + 25 → is_marked code p ≡ false) → any_below (leads code at) at ≡ false
missed code at none =
    any_below-none (leads code at) at (λ k less. elim (cases_lt (k + 25) at) [
      | inl far ↦ too_far code at k far
      | inr close ↦ unmarked code at k (none k less (omega arith))
    ])
