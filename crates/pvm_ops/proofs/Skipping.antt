-- The walk to the next stop.
use Rattle.std.proofs.Common.{◌≡◌, ℕ, zero, suc, ◌+◌, ◌<◌, ◌≤◌, Bool, true, false, arith, refl}
use Rattle.pvm_ops.specs.Listing.{run_before}

-- the first place that stops is j further on, or there is none among n
pub run_before-is : (stops : ℕ → Bool) (n at j : ℕ) → j ≤ n → ((p : ℕ) → at ≤ p → p < at + j → stops p ≡ false) → ((p : ℕ) → p ≡ at + j → j < n → stops p ≡ true) → run_before stops at n ≡ j
unfolding run_before
run_before-is stops zero at j h before after = omega arith
run_before-is stops (suc n) at zero h before after = rw (after at (omega arith) (omega arith)) refl
run_before-is stops (suc n) at (suc j) h before after =
    rw (before at (omega arith) (omega arith))
    (let rest : run_before stops (at + 1) n ≡ j = run_before-is stops n (at + 1) j (omega arith) (λ p a b. before p (omega arith) (omega arith)) (λ p e b. after p (omega arith) (omega arith)) in
    omega (arith, rest))
